-- Why a call of a ledger is refused, by what is below it.
use Rattle.std.specs.Prelude.{nat_lt, Bool, true, false, if◌then◌else◌, length, Option, None, Some}
use Rattle.std.specs.Option.{option_map}
use Rattle.irp_core.specs.declared.ids.FileId.{FileId}
use Rattle.request_table.specs.declared.refusals.BeginRefused.{BeginRefused as TableRefused}
use Rattle.request_table.specs.declared.refusals.BeginRefused.TheVariants as of_table
use Rattle.request_table.specs.Refusals.{refusal_to_begin}
use Rattle.csq_list.specs.declared.refusals.InsertStatus.{InsertStatus, TheVariants.{FileClosed, FileFull, Full}}
use Rattle.csq_queue.specs.Looks.{present_listing}
use Rattle.csq_ledger.specs.declared.refusals.BeginRefused.{BeginRefused}
use Rattle.csq_ledger.specs.declared.refusals.BeginRefused.TheVariants as begin
use Rattle.csq_ledger.specs.declared.refusals.{PutBackRefused.{PutBackRefused}, EndRefused.{EndRefused}, CancelRefused.{CancelRefused}}
use Rattle.csq_ledger.specs.declared.refusals.PutBackRefused.TheVariants as back
use Rattle.csq_ledger.specs.declared.refusals.EndRefused.TheVariants as end
use Rattle.csq_ledger.specs.declared.refusals.CancelRefused.TheVariants as cancel
use Rattle.irp_core.specs.Steps.{number}
use Rattle.irp_core.specs.declared.ids.IrpLife.{IrpLife}
use Rattle.irp_core.specs.declared.status.NtStatus.{NtStatus}
use Rattle.request_table.specs.Stages.{is_taken, is_under_way}
use Rattle.csq_checked.specs.Causes.{is_of_place}
use Rattle.csq_checked.specs.declared.calls.PutBackRefused.{PutBackRefused as NotPutBack}
use Rattle.csq_checked.specs.declared.calls.PutBackRefused.TheVariants as not_back
use Rattle.csq_checked.specs.declared.unlocked.CompleteRefused.{CompleteRefused, TheVariants.{UnknownIrp, NotHeld}}
use Rattle.csq_ledger.specs.Singles.{spot}
use Rattle.csq_ledger.specs.Moves.{closed_or_crowded, crowded, late_cause}
use Rattle.csq_ledger.specs.Ledgers.{LedgerState, is_ending, named_stage}

-- a cause of the table
abbrev pub by_table : TableRefused → BeginRefused
by_table of_table.UnknownFile = begin.UnknownFile
by_table of_table.Closed = begin.Closed
by_table of_table.FileClosed = begin.FileClosed
by_table of_table.AllSpent = begin.AllSpent
by_table of_table.AllUnderWay = begin.AllUnderWay

-- the cause is that of a full list
abbrev pub is_crowded : InsertStatus → Bool
is_crowded FileFull = true
is_crowded Full = true
is_crowded _ = false

-- such a cause
abbrev pub by_queue : InsertStatus → BeginRefused
by_queue FileFull = begin.FileFull
by_queue _ = begin.Full

-- the first cause, if there is one
abbrev pub first_of : Option BeginRefused → Option BeginRefused → Option BeginRefused
first_of None later = later
first_of (Some cause) later = Some cause

-- why no request for f begins: for a cause of the table, or else since the list is full
abbrev pub refusal_of_begin : LedgerState → FileId → Option BeginRefused
refusal_of_begin s f = first_of (option_map by_table (refusal_to_begin s.table f)) (option_map by_queue (crowded (present_listing s.single.queue.queue) f))

-- the pass may refuse this of what it holds
abbrev pub may_refuse : NotPutBack → Bool
may_refuse not_back.NotRemoved = true
may_refuse (not_back.ByQueue cause) = is_of_place cause
may_refuse _ = false

-- such a cause
abbrev pub by_put_back : NotPutBack → PutBackRefused
by_put_back (not_back.ByQueue FileClosed) = back.FileClosed
by_put_back (not_back.ByQueue FileFull) = back.FileFull
by_put_back (not_back.ByQueue Full) = back.Full
by_put_back _ = back.NotRemoved

-- why what a removal gave to the pass, and is flagged or not, isn't listed again for f
abbrev pub refusal_of_list : Bool → Option InsertStatus → Option PutBackRefused
refusal_of_list flagged None = if flagged then Some back.Cancelled else None
refusal_of_list flagged (Some cause) = Some (by_put_back (not_back.ByQueue cause))

-- why a request isn't listed again
abbrev pub refusal_of_put_back : LedgerState → IrpLife → Option PutBackRefused
refusal_of_put_back s i =
    if nat_lt (number i) (length s.table.stages) then
    (if is_taken (named_stage s i) then
    (if (spot s.single i.irp).is_removed then refusal_of_list (spot s.single i.irp).is_flagged (closed_or_crowded (present_listing s.single.queue.queue) (spot s.single i.irp).file) else Some back.NotRemoved)
    else Some back.NotTaken)
    else Some back.UnknownIrp

-- why a request isn't completed with this status
abbrev pub refusal_of_finish : LedgerState → IrpLife → NtStatus → Option CompleteRefused
refusal_of_finish s i status = if nat_lt (number i) (length s.table.stages) then (if is_taken (named_stage s i) then late_cause (spot s.single i.irp).is_removed status else Some NotHeld) else Some UnknownIrp

-- why the end of a request isn't completed
abbrev pub refusal_of_end : LedgerState → IrpLife → Option EndRefused
refusal_of_end s i = if nat_lt (number i) (length s.table.stages) then (if is_ending (named_stage s i) then None else Some end.NotEnding) else Some end.UnknownIrp

-- why a request isn't cancelled
abbrev pub refusal_of_cancel : LedgerState → IrpLife → Option CancelRefused
refusal_of_cancel s i = if nat_lt (number i) (length s.table.stages) then (if is_under_way (named_stage s i) then None else Some cancel.Stale) else Some cancel.UnknownIrp
