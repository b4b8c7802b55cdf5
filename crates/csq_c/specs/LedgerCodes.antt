-- The codes that the calls of a ledger return, and which answer has which.
use Rattle.std.specs.Prelude.{ℕ, Bool, true, false, Option, Some, None, Result, Ok, Err}
use Rattle.irp_core.specs.declared.ids.IrpLife.{IrpLife}
use Rattle.request_table.specs.declared.stage.Ended.{Ended}
use Rattle.csq_checked.specs.declared.unlocked.CompleteRefused.{CompleteRefused}
use Rattle.csq_ledger.specs.declared.refusals.{BeginRefused.{BeginRefused}, CancelRefused.{CancelRefused}, EndRefused.{EndRefused}, PutBackRefused.{PutBackRefused}, TakeRefused.{TakeRefused}}
use Rattle.csq_ledger.specs.declared.refusals.BeginRefused.TheVariants as begin
use Rattle.csq_ledger.specs.declared.refusals.CancelRefused.TheVariants as cancel
use Rattle.csq_ledger.specs.declared.refusals.EndRefused.TheVariants as end
use Rattle.csq_ledger.specs.declared.refusals.PutBackRefused.TheVariants as back
use Rattle.csq_ledger.specs.declared.refusals.TakeRefused.TheVariants as take
use Rattle.csq_ledger.specs.declared.request.{Expired.{Expired}, Request.{Request}}
use Rattle.csq_ledger.specs.declared.looks.Counts.{Counts}
use Rattle.csq_c.specs.Codes.{complete_code}
use Rattle.csq_c.specs.LedgerShapes.{stage_number}
use Rattle.csq_c.specs.declared.codes.Code.{Code, TheVariants.{Done, UnknownIrp, UnknownFile, FileClosed, Full, FileFull, Cancelled, Nothing, Stale, LivesSpent, NotHeld, NotRemoved, Closed}}

-- what a begin returned
abbrev pub begin_code : Result IrpLife BeginRefused → Code
begin_code (Ok name) = Done
begin_code (Err begin.UnknownFile) = UnknownFile
begin_code (Err begin.Closed) = Closed
begin_code (Err begin.FileClosed) = FileClosed
begin_code (Err begin.AllSpent) = LivesSpent
begin_code (Err begin.AllUnderWay) = Full
begin_code (Err begin.FileFull) = FileFull
begin_code (Err begin.Full) = Full

-- what a removal of the first match returned
abbrev pub take_code : Result Request TakeRefused → Code
take_code (Ok request) = Done
take_code (Err take.UnknownFile) = UnknownFile
take_code (Err take.NoneListed) = Nothing

-- the name and the file object that it stored
abbrev pub taken_name : Result Request TakeRefused → Option IrpLife
taken_name (Ok request) = Some request.name
taken_name (Err refused) = None

abbrev pub taken_file : Result Request TakeRefused → Option ℕ
taken_file (Ok request) = Some request.file.0
taken_file (Err refused) = None

-- what a put-back returned
abbrev pub put_back_code : Result (Unit {0}) PutBackRefused → Code
put_back_code (Ok done) = Done
put_back_code (Err back.UnknownIrp) = UnknownIrp
put_back_code (Err back.NotTaken) = NotHeld
put_back_code (Err back.NotRemoved) = NotRemoved
put_back_code (Err back.FileClosed) = FileClosed
put_back_code (Err back.FileFull) = FileFull
put_back_code (Err back.Full) = Full
put_back_code (Err back.Cancelled) = Cancelled

-- what a completion returned
abbrev pub finish_code : Result Ended CompleteRefused → Code
finish_code (Ok ended) = Done
finish_code (Err cause) = complete_code (Err cause)

-- what the second half of an end returned
abbrev pub end_code : Result Ended EndRefused → Code
end_code (Ok ended) = Done
end_code (Err end.UnknownIrp) = UnknownIrp
end_code (Err end.NotEnding) = NotHeld

-- what a cancel returned
abbrev pub cancel_code : Result Bool CancelRefused → Code
cancel_code (Ok true) = Done
cancel_code (Ok false) = Nothing
cancel_code (Err cancel.UnknownIrp) = UnknownIrp
cancel_code (Err cancel.Stale) = Stale

-- whether a request was due
abbrev pub expire_code : Option Expired → Code
expire_code None = Nothing
expire_code (Some expired) = Done

-- the name and the stage that it stored
abbrev pub expired_name : Option Expired → Option IrpLife
expired_name None = None
expired_name (Some expired) = Some expired.name

abbrev pub expired_stage : Option Expired → Option ℕ
expired_stage None = None
expired_stage (Some expired) = Some (stage_number expired.stage)

-- whether there is such a file object, and the numbers that were stored
abbrev pub counts_code : Option Counts → Code
counts_code None = UnknownFile
counts_code (Some counts) = Done

abbrev pub listed_stored : Option Counts → Option ℕ
listed_stored None = None
listed_stored (Some counts) = Some counts.listed

abbrev pub under_way_stored : Option Counts → Option ℕ
under_way_stored None = None
under_way_stored (Some counts) = Some counts.under_way

-- whether anything is due
abbrev pub due_code : Option ℕ → Code
due_code None = Nothing
due_code (Some time) = Done
