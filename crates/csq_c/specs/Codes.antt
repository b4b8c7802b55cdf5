-- The codes that calls answer, and which answer has which.
use Rattle.std.specs.Prelude.{ℕ, Bool, Option, Some, None, Result, Ok, Err, if◌then◌else◌}
use Rattle.irp_core.specs.declared.ids.{IrpLife.{IrpLife}, Life.{Life}}
use Rattle.irp_core.specs.declared.status.NtStatus.{NtStatus}
use Rattle.csq_list.specs.declared.refusals.{InsertStatus.{InsertStatus}, UnknownFile.{UnknownFile as NoFile}}
use Rattle.csq_list.specs.declared.refusals.InsertStatus.TheVariants as insert
use Rattle.csq_queue.specs.declared.tokens.InsertAnswer.{InsertAnswer}
use Rattle.csq_queue.specs.declared.tokens.InsertAnswer.TheVariants as inserted
use Rattle.csq_queue.specs.declared.refusals.{CancelRefused.{CancelRefused}, UnknownIrp.{UnknownIrp as NoIrp}}
use Rattle.csq_queue.specs.declared.refusals.CancelRefused.TheVariants as cancel
use Rattle.csq_checked.specs.declared.calls.{PutBackRefused.{PutBackRefused}, CheckedReuseRefused.{CheckedReuseRefused}}
use Rattle.csq_checked.specs.declared.calls.PutBackRefused.TheVariants as back
use Rattle.csq_checked.specs.declared.calls.CheckedReuseRefused.TheVariants as reuse
use Rattle.csq_checked.specs.declared.unlocked.{CompleteRefused.{CompleteRefused}, RoutineRefused.{RoutineRefused}}
use Rattle.csq_checked.specs.declared.unlocked.CompleteRefused.TheVariants as complete
use Rattle.csq_checked.specs.declared.unlocked.RoutineRefused.TheVariants as routine
use Rattle.irp_core.specs.declared.refusals.SizeRefused.{SizeRefused}
use Rattle.irp_core.specs.declared.refusals.SizeRefused.TheVariants as new
use Rattle.csq_checked.specs.declared.size.PassRefused.{PassRefused}
use Rattle.csq_checked.specs.declared.size.PassRefused.TheVariants as pass
use Rattle.csq_c.specs.declared.codes.Code.{Code, TheVariants.{Done, UnknownIrp, UnknownFile, NotHome, FileClosed, Full, FileFull, Cancelled, Nothing, Stale, NotCompleted, LivesSpent, NotHeld, NotOwed, NotRemoved, NotFinal, Holding, PassesOut, NoPass, BadSize, NoMemory, EmptyHandle, NotEmpty, NotListed, Closed, NotClosed, OtherQueue, UnknownPass, LockHeld, NotNext}}

-- the number of a code
abbrev pub number_of : Code → ℕ
number_of Done = 0
number_of UnknownIrp = 1
number_of UnknownFile = 2
number_of NotHome = 3
number_of FileClosed = 4
number_of Full = 5
number_of FileFull = 6
number_of Cancelled = 7
number_of Nothing = 8
number_of Stale = 9
number_of NotCompleted = 10
number_of LivesSpent = 11
number_of NotHeld = 12
number_of NotOwed = 13
number_of NotRemoved = 14
number_of NotFinal = 15
number_of Holding = 16
number_of PassesOut = 17
number_of NoPass = 18
number_of BadSize = 19
number_of NoMemory = 20
number_of EmptyHandle = 21
number_of NotEmpty = 22
number_of NotListed = 23
number_of Closed = 24
number_of NotClosed = 25
number_of OtherQueue = 26
number_of UnknownPass = 27
number_of LockHeld = 28
number_of NotNext = 29

-- why no IRP was inserted
abbrev pub refusal_code : InsertStatus → Code
refusal_code insert.UnknownIrp = UnknownIrp
refusal_code insert.UnknownFile = UnknownFile
refusal_code insert.NotHome = NotHome
refusal_code insert.FileClosed = FileClosed
refusal_code insert.FileFull = FileFull
refusal_code insert.Full = Full

-- what an insert answered
abbrev pub insert_code : Result (InsertAnswer IrpLife IrpLife) InsertStatus → Code
insert_code (Ok (inserted.Pending context)) = Done
insert_code (Ok (inserted.Cancelled token)) = Cancelled
insert_code (Err cause) = refusal_code cause

-- which IRP an insert stored
abbrev pub inserted_irp : Result (InsertAnswer IrpLife IrpLife) InsertStatus → Option IrpLife
inserted_irp (Ok (inserted.Pending context)) = Some context
inserted_irp (Ok (inserted.Cancelled token)) = Some token
inserted_irp (Err cause) = None

-- what a put-back returned
abbrev pub put_back_code : Result (InsertAnswer IrpLife IrpLife) PutBackRefused → Code
put_back_code (Ok answer) = insert_code (Ok answer)
put_back_code (Err back.UnknownIrp) = UnknownIrp
put_back_code (Err back.NotHeld) = NotHeld
put_back_code (Err back.NotRemoved) = NotRemoved
put_back_code (Err (back.ByQueue cause)) = refusal_code cause

-- which IRP a put-back stored
abbrev pub put_back_irp : Result (InsertAnswer IrpLife IrpLife) PutBackRefused → Option IrpLife
put_back_irp (Ok answer) = inserted_irp (Ok answer)
put_back_irp (Err cause) = None

-- whether a removal got an IRP
abbrev pub removal_code : Option IrpLife → Code
removal_code (Some i) = Done
removal_code None = Nothing

-- what a cancel routine answered
abbrev pub routine_code : Result (Unit {0}) RoutineRefused → Code
routine_code (Ok done) = Done
routine_code (Err routine.UnknownIrp) = UnknownIrp
routine_code (Err routine.NotOwed) = NotOwed

-- what a closing of a file object answered
abbrev pub close_file_code : Result (Unit {0}) NoFile → Code
close_file_code (Ok done) = Done
close_file_code (Err refused) = UnknownFile

-- what a reuse answered
abbrev pub reuse_code : Result Life CheckedReuseRefused → Code
reuse_code (Ok life) = Done
reuse_code (Err reuse.UnknownIrp) = UnknownIrp
reuse_code (Err reuse.Stale) = Stale
reuse_code (Err reuse.NotCompleted) = NotCompleted
reuse_code (Err reuse.LivesSpent) = LivesSpent

-- what a cancel answered
abbrev pub mark_code : Result (Option IrpLife) CancelRefused → Code
mark_code (Ok claim) = Done
mark_code (Err cancel.UnknownIrp) = UnknownIrp
mark_code (Err (cancel.Stale life)) = Stale

-- what a completion answered
abbrev pub complete_code : Result (Unit {0}) CompleteRefused → Code
complete_code (Ok done) = Done
complete_code (Err complete.UnknownIrp) = UnknownIrp
complete_code (Err complete.NotHeld) = NotHeld
complete_code (Err complete.NotRemoved) = NotRemoved
complete_code (Err complete.NotFinal) = NotFinal

-- what a look at the Cancel flag answered
abbrev pub flag_code : Result (Life × Bool) NoIrp → Code
flag_code (Ok read) = Done
flag_code (Err refused) = UnknownIrp

-- what a look at the status answered
abbrev pub status_code : Result (Life × Option NtStatus) NoIrp → Code
status_code (Ok (life, Some status)) = Done
status_code (Ok (life, None)) = Nothing
status_code (Err refused) = UnknownIrp

-- why there is no queue
abbrev pub new_code : SizeRefused → Code
new_code new.BadSize = BadSize
new_code new.Memory = NoMemory

-- why there is no pass
abbrev pub pass_code : PassRefused → Code
pass_code pass.NoPass = NoPass
pass_code pass.Memory = NoMemory

-- the life that a reuse answered
abbrev pub life_stored : Result Life CheckedReuseRefused → Option ℕ
life_stored (Ok life) = Some life.0
life_stored (Err refused) = None

-- whether a cancel found the routine there: 1, or 0
abbrev pub claim_stored : Result (Option IrpLife) CancelRefused → Option ℕ
claim_stored (Ok (Some i)) = Some 1
claim_stored (Ok None) = Some 0
claim_stored (Err refused) = None

-- the life that a look at the Cancel flag stored, and 1 if the flag is set in it, or 0
abbrev pub flag_life_stored : Result (Life × Bool) NoIrp → Option ℕ
flag_life_stored (Ok read) = Some read.0.0
flag_life_stored (Err refused) = None

abbrev pub flag_stored : Result (Life × Bool) NoIrp → Option ℕ
flag_stored (Ok read) = Some (if read.1 then 1 else 0)
flag_stored (Err refused) = None

-- the life that a look at the status stored, and the status, if there is one
abbrev pub status_life_stored : Result (Life × Option NtStatus) NoIrp → Option ℕ
status_life_stored (Ok read) = Some read.0.0
status_life_stored (Err refused) = None

abbrev pub status_stored : Result (Life × Option NtStatus) NoIrp → Option ℕ
status_stored (Ok (life, Some status)) = Some status.0
status_stored (Ok (life, None)) = None
status_stored (Err refused) = None
