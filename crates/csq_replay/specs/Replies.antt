-- How what a call answers is reported.
use Rattle.std.specs.Prelude.{Bool, true, false, Option, Some, None, Result, Ok, Err}
use Rattle.irp_core.specs.declared.ids.IrpId.{IrpId}
use Rattle.csq_list.specs.declared.refusals.InsertStatus.{InsertStatus}
use Rattle.csq_replay.specs.declared.script.call.{InsertOutcome.{InsertOutcome}, CallRefused.{CallRefused}, Reply.{Reply, TheVariants.{Pending, Cancelled, InsertRefused, Removed, NoIrp, Claimed, Unclaimed, Refused}}}
use Rattle.csq_replay.specs.declared.script.call.InsertOutcome.TheVariants as insert

-- a call's value is reported so, and a refusal by its name
abbrev pub reported : {T : Type 0} → (T → Reply) → Result T CallRefused → Reply
reported report (Ok value) = report value
reported report (Err refusal) = Refused refusal

-- of an insert
abbrev pub insert_reply : Result InsertOutcome InsertStatus → Reply
insert_reply (Ok insert.Pending) = Pending
insert_reply (Ok insert.Cancelled) = Cancelled
insert_reply (Err cause) = InsertRefused cause

-- of a removal that took this IRP, or none
abbrev pub taken_reply : Option IrpId → Reply
taken_reply (Some n) = Removed n
taken_reply None = NoIrp

-- of a mark that took the routine, or didn't
abbrev pub mark_reply : Bool → Reply
mark_reply true = Claimed
mark_reply false = Unclaimed
