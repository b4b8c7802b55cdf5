-- Why a pass refuses a call.
use Rattle.std.specs.Prelude.{ℕ, ◌==◌, nat_lt, if◌then◌else◌, Bool, true, false, List, Option, Some, None}
use Rattle.irp_core.specs.Steps.{number}
use Rattle.irp_core.specs.declared.ids.IrpLife.{IrpLife}
use Rattle.irp_core.specs.declared.status.{NtStatus.{NtStatus}, TheConstants.NtStatus.{PENDING}}
use Rattle.irp_core.specs.declared.step.Made.{Made}
use Rattle.irp_core.specs.Own.{holds_in, owes_in, removed_in}
use Rattle.csq_list.specs.declared.refusals.InsertStatus.{InsertStatus}
use Rattle.csq_list.specs.declared.refusals.InsertStatus.TheVariants as insert
use Rattle.csq_checked.specs.declared.calls.PutBackRefused.{PutBackRefused}
use Rattle.csq_checked.specs.declared.calls.PutBackRefused.TheVariants as back
use Rattle.csq_checked.specs.declared.unlocked.{CompleteRefused.{CompleteRefused, TheVariants.{UnknownIrp, NotHeld, NotRemoved, NotFinal}}, RoutineRefused.{RoutineRefused}}
use Rattle.csq_checked.specs.declared.unlocked.RoutineRefused.TheVariants as routine

-- why an IRP that a removal got, or not, isn't completed with this status
abbrev pub completion_cause : Bool → NtStatus → Option CompleteRefused
completion_cause removed status = if removed then (if status.0 == PENDING.0 then Some NotFinal else None) else Some NotRemoved

-- why i isn't completed with this status by the pass with these steps
abbrev pub complete_cause : ℕ → List Made → IrpLife → NtStatus → Option CompleteRefused
complete_cause irps steps i status = if nat_lt (number i) irps then (if holds_in steps i then completion_cause (removed_in steps i) status else Some NotHeld) else Some UnknownIrp

-- why i isn't completed as cancelled by the pass with these steps
abbrev pub cancelled_cause : ℕ → List Made → IrpLife → Option CompleteRefused
cancelled_cause irps steps i = if nat_lt (number i) irps then (if holds_in steps i then None else Some NotHeld) else Some UnknownIrp

-- why the pass with these steps doesn't put i back, before the queue is asked
abbrev pub put_back_cause : ℕ → List Made → IrpLife → Option PutBackRefused
put_back_cause irps steps i = if nat_lt (number i) irps then (if holds_in steps i then (if removed_in steps i then None else Some back.NotRemoved) else Some back.NotHeld) else Some back.UnknownIrp

-- the cause is the file object's or the list's
abbrev pub is_of_place : InsertStatus → Bool
is_of_place insert.UnknownIrp = false
is_of_place insert.UnknownFile = false
is_of_place insert.NotHome = false
is_of_place cause = true

-- why the pass with these steps doesn't take i out
abbrev pub routine_cause : ℕ → List Made → IrpLife → Option RoutineRefused
routine_cause irps steps i = if nat_lt (number i) irps then (if owes_in steps i then None else Some routine.NotOwed) else Some routine.UnknownIrp
