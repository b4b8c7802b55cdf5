-- What each call of a ledger returns, and what is new of it then.
use Rattle.std.specs.Prelude.{◌≡◌, ◌<◌, ◌==◌, ◌↔◌, nat_lt, ℕ, Bool, true, if◌then◌else◌, length, slice_get, slice_set, Option, None, Some, Result, IfOk, IfSome, IsOk, OnOk, OnErr}
use Rattle.std.specs.Option.{is_none, option_map}
use Rattle.std.specs.Result.{result_err}
use Rattle.irp_core.specs.declared.ids.{FileId.{FileId}, IrpId.{IrpId}, IrpLife.{IrpLife}}
use Rattle.irp_core.specs.declared.status.NtStatus.{NtStatus}
use Rattle.request_table.specs.declared.stage.{Ended.{Ended}, Why.{Why, TheVariants.{Due}}, Stage.{Stage, TheVariants.{Listed, Taken, Ending}}}
use Rattle.request_table.specs.Requests.{Requests, begun, finished, stage_of, under_way, under_way_of_all, with_due, with_stage}
use Rattle.request_table.specs.Stages.{as_listed, as_named, file_of, is_listed}
use Rattle.request_table.specs.Times.{IsOver, NoneIsOver}
use Rattle.csq_list.specs.declared.refusals.UnknownFile.{UnknownFile}
use Rattle.csq_checked.specs.declared.unlocked.CompleteRefused.{CompleteRefused}
use Rattle.csq_list.specs.declared.entry.{Peek.{Peek, TheVariants.{Any, File}}, Place.{Place}}
use Rattle.csq_queue.specs.Looks.{listed_for, next_listed}
use Rattle.csq_ledger.specs.declared.looks.Counts.{Counts}
use Rattle.csq_ledger.specs.declared.refusals.{BeginRefused.{BeginRefused}, CancelRefused.{CancelRefused}, EndRefused.{EndRefused}, PutBackRefused.{PutBackRefused}, TakeRefused.{TakeRefused}}
use Rattle.csq_ledger.specs.declared.refusals.PutBackRefused.TheVariants as back
use Rattle.csq_ledger.specs.declared.refusals.TakeRefused.TheVariants as take
use Rattle.csq_ledger.specs.declared.request.{Expired.{Expired}, Request.{Request}}
use Rattle.csq_ledger.specs.Singles.{Single, IsSameIn, present}
use Rattle.csq_ledger.specs.Moves.{Closes, Ends, FindsCancelled, Flags, Lists, Relists, Takes, TakesOut}
use Rattle.csq_ledger.specs.Refusals.{refusal_of_begin, refusal_of_cancel, refusal_of_end, refusal_of_finish, refusal_of_put_back}
use Rattle.csq_ledger.specs.Ledgers.{LedgerState, named_stage}

-- nothing is new of any request, nor of a file object
pub record IsKept (s s' : LedgerState) : Type 0 where
  pub table : s'.table ≡ s.table
  pub queue : IsSameIn s.single s'.single

-- a peek is for any file object, or for one that there is
abbrev pub is_known : Requests → Peek → Bool
is_known t Any = true
is_known t (File f) = nat_lt f.0 (length t.closed_files)

-- why nothing is taken
abbrev pub refusal_to_take : Single → Requests → Peek → Option TakeRefused
refusal_to_take s t k = if is_known t k then (if is_none (next_listed s.queue.queue None k) then Some take.NoneListed else None) else Some take.UnknownFile

-- a request was handed to a worker
abbrev pub taken_by : Request → Requests → Requests
taken_by r t = with_stage r.name.irp (Taken r.file None) t

-- a request is on its way to its end, for this reason
abbrev pub drained_by : Why → Request → Requests → Requests
drained_by why r t = with_due r.name.irp None (with_stage r.name.irp (Ending r.file why) t)

-- the first in the list that matches left it, and the pass holds it; or the first cause why not
pub record Removes (k : Peek) (answer : Result Request TakeRefused) (s : Single) (t : Requests) (s' : Single) : Type 0 where
  pub cause : result_err answer ≡ refusal_to_take s t k
  pub first : IfOk answer (λ r. next_listed s.queue.queue None k ≡ Some r.name)
  pub stage : IfOk answer (λ r. stage_of t r.name.irp ≡ Listed r.file)
  pub taken : IfOk answer (λ r. Takes r.name s s')
  pub kept : OnErr answer (IsSameIn s s')

-- so it did, and of the table only this is new
pub record TakesRequest (k : Peek) (to : Request → Requests → Requests) (answer : Result Request TakeRefused) (s s' : LedgerState) : Type 0 where
  pub removed : Removes k answer s.single s.table s'.single
  pub table : IfOk answer (λ r. s'.table ≡ to r s.table)
  pub kept : OnErr answer (s'.table ≡ s.table)

-- a request for f began under the number that has been free longest: it is listed at this place; or the first cause why not
pub record Begins (f : FileId) (place : Place) (due : Option ℕ) (answer : Result IrpLife BeginRefused) (s s' : LedgerState) : Type 0 where
  pub cause : result_err answer ≡ refusal_of_begin s f
  pub number : IfOk answer (λ i. slice_get s.table.free 0 ≡ Some i.irp)
  pub name : IfOk answer (λ i. i ≡ present s.single i.irp)
  pub listed : IfOk answer (λ i. Lists i.irp f place s.single s'.single)
  pub table : IfOk answer (λ i. s'.table ≡ with_due i.irp due (begun i.irp f s.table))
  pub kept : OnErr answer (IsKept s s')

-- a request that was taken is listed again, at this place; or the first cause why not
pub record PutsBackRequest (i : IrpLife) (place : Place) (answer : Result (Unit {0}) PutBackRefused) (s s' : LedgerState) : Type 0 where
  pub cause : result_err answer ≡ refusal_of_put_back s i
  pub listed : OnOk answer (Relists i place s.single s'.single)
  pub table : OnOk answer (s'.table ≡ with_stage i.irp (as_listed (stage_of s.table i.irp)) s.table)
  pub cancelled : result_err answer ≡ Some back.Cancelled → FindsCancelled i s.single s'.single
  pub kept : OnErr answer (s'.table ≡ s.table)
  pub same : OnErr answer (¬ (result_err answer ≡ Some back.Cancelled) → IsSameIn s.single s'.single)

-- the request of IRP n is over: its number is free in its next life, or spent if that was the last; and whether it was the last one under way
pub record HasEnded (n : IrpId) (ended : Ended) (s s' : LedgerState) : Type 0 where
  pub is_last : Bool
  pub ends : Ends n is_last s.single s'.single
  pub table : s'.table ≡ with_due n None (finished n is_last s.table)
  pub file : file_of (stage_of s.table n) ≡ Some ended.file
  pub file_is_quiet : ended.file_is_quiet ≡ (under_way s'.table ended.file == 0)
  pub all_are_quiet : ended.all_are_quiet ≡ (under_way_of_all s'.table == 0)

-- a request that was taken was completed with this status, and is over; or the first cause why not
pub record FinishesRequest (i : IrpLife) (status : NtStatus) (answer : Result Ended CompleteRefused) (s s' : LedgerState) : Type 0 where
  pub cause : result_err answer ≡ refusal_of_finish s i status
  pub ended : IfOk answer (λ ended. HasEnded i.irp ended s s')
  pub kept : OnErr answer (s' ≡ s)

-- a request that was ending was completed with STATUS_CANCELLED, and is over; or the first cause why not
pub record EndsRequest (i : IrpLife) (answer : Result Ended EndRefused) (s s' : LedgerState) : Type 0 where
  pub cause : result_err answer ≡ refusal_of_end s i
  pub ended : IfOk answer (λ ended. HasEnded i.irp ended s s')
  pub kept : OnErr answer (s' ≡ s)

-- a request that was listed is ending, for this reason; one that was taken is named, unless it was before
abbrev pub CutsShort : IrpLife → Why → Stage → LedgerState → LedgerState → Type 0
CutsShort i why (Listed f) s s' = TakesOut i s.single s'.single × (s'.table ≡ with_due i.irp None (with_stage i.irp (Ending f why) s.table))
CutsShort i why (Taken f named) s s' = Flags i s.single s'.single × (s'.table ≡ with_stage i.irp (as_named why (Taken f named)) s.table)
CutsShort i why stage s s' = s' ≡ s

-- a cancel of a request, by its name, which returns whether it is ending by this cancel; or the first cause why not
pub record CancelsRequest (i : IrpLife) (why : Why) (answer : Result Bool CancelRefused) (s s' : LedgerState) : Type 0 where
  pub cause : result_err answer ≡ refusal_of_cancel s i
  pub answered : IfOk answer (λ is_ending. is_ending ≡ is_listed (named_stage s i))
  pub cut : OnOk answer (CutsShort i why (named_stage s i) s s')
  pub kept : OnErr answer (s' ≡ s)

-- the request that is due first is cut short, if it is due now or before: it isn't due any more
pub record Expires (now : ℕ) (answer : Option Expired) (s s' : LedgerState) : Type 0 where
  pub over : IfSome answer (λ e. IsOver s.table.dues now e.name.irp)
  pub name : IfSome answer (λ e. e.name ≡ present s.single e.name.irp)
  pub cut : IfSome answer (λ e. CutsShort e.name Due (stage_of s.table e.name.irp) (record s { table = with_due e.name.irp None s.table }) s')
  pub stage : IfSome answer (λ e. e.stage ≡ stage_of s'.table e.name.irp)
  pub none : answer ≡ None → NoneIsOver s.table.dues now × (s' ≡ s)

-- a file object is closed for good, if there is one
pub record ClosesFile (f : FileId) (answer : Result (Unit {0}) UnknownFile) (s s' : LedgerState) : Type 0 where
  pub known : IsOk answer ↔ (f.0 < length s.table.closed_files)
  pub closed : OnOk answer (s'.table ≡ record s.table { closed_files = slice_set s.table.closed_files f.0 true })
  pub queue : Closes f answer s.single s'.single
  pub kept : OnErr answer (s' ≡ s)

-- how many requests are listed for a file object, if there is one, and under way
abbrev pub counts_for : LedgerState → FileId → Option Counts
counts_for s f = option_map (λ (n : ℕ). record { listed = n; under_way = under_way s.table f }) (listed_for s.single.queue.queue f)
