-- What each call of a queue with its one pass returns, and makes of one IRP: all else is as it was.
use Rattle.std.specs.Prelude.{◌≡◌, ◌+◌, ◌==◌, if◌then◌else◌, length, ◌||◌, true, false, Bool, Option, None, Some, Result, IfSome, IfOk, IfErr, OnOk, OnErr, IsOk, ◌↔◌, ◌<◌}
use Rattle.std.specs.Result.{result_err}
use Rattle.irp_core.specs.Lives.{last_life}
use Rattle.irp_core.specs.Steps.{number}
use Rattle.irp_core.specs.declared.ids.{FileId.{FileId}, IrpId.{IrpId}, IrpLife.{IrpLife}}
use Rattle.irp_core.specs.declared.status.{NtStatus.{NtStatus}, TheConstants.NtStatus.{CANCELLED}}
use Rattle.csq_list.specs.Listing.{Listing, is_file_full, put_at}
use Rattle.csq_list.specs.declared.refusals.InsertStatus.TheVariants.{FileClosed, FileFull, Full}
use Rattle.csq_list.specs.Searches.{entries_without, same_file}
use Rattle.csq_list.specs.declared.entry.{Entry.{Entry}, Peek.{Peek}, Place.{Place}}
use Rattle.csq_list.specs.declared.refusals.{InsertStatus.{InsertStatus}, UnknownFile.{UnknownFile}}
use Rattle.csq_words.specs.Queue.{refusal}
use Rattle.csq_queue.specs.Looks.{next_listed, present_listing}
use Rattle.csq_queue.specs.declared.tokens.InsertAnswer.{InsertAnswer}
use Rattle.csq_queue.specs.declared.tokens.InsertAnswer.TheVariants.{Pending, Cancelled}
use Rattle.csq_checked.specs.Causes.{completion_cause}
use Rattle.std.specs.Option.{option_map}
use Rattle.csq_checked.specs.declared.calls.PutBackRefused.{PutBackRefused}
use Rattle.csq_checked.specs.declared.calls.PutBackRefused.TheVariants.{ByQueue, NotRemoved}
use Rattle.csq_checked.specs.declared.unlocked.CompleteRefused.{CompleteRefused}
use Rattle.csq_ledger.specs.Singles.{Single, Leaves, IsSameIn, is_closed, limits_of, list_of, present, queue_in, spot}

-- the entry of IRP n for a file object
abbrev pub entry_of : IrpId → FileId → Entry
entry_of n f = record { irp = n; file = f }

-- IRP n was listed for f, at this place
pub record Lists (n : IrpId) (f : FileId) (place : Place) (s s' : Single) : Type 0 where
  pub accepted : refusal (limits_of s) (queue_in s) n f ≡ None
  pub was_home : (spot s n).is_used ≡ false
  pub spot_is : spot s' n ≡ record (spot s n) { is_listed = true; is_used = true; file = f }
  pub list : list_of s' ≡ put_at place (entry_of n f) (list_of s)
  pub rest : Leaves n s s'

-- an insert of IRP n, which isn't flagged, for f: it is listed, under this name, or is refused for the first cause
pub record Inserts (n : IrpId) (f : FileId) (place : Place) (answer : Result IrpLife InsertStatus) (s s' : Single) : Type 0 where
  pub name : IfOk answer (λ i. i ≡ present s n)
  pub listed : OnOk answer (Lists n f place s s')
  pub cause : IfErr answer (λ cause. refusal (limits_of s) (queue_in s) n f ≡ Some cause)
  pub kept : OnErr answer (IsSameIn s s')

-- a removal gave i to the pass
pub record Takes (i : IrpLife) (s s' : Single) : Type 0 where
  pub is_present : i ≡ present s i.irp
  pub known : number i < (limits_of s).irps
  pub was_listed : (spot s i.irp).is_listed ≡ true
  pub was_unflagged : (spot s i.irp).is_flagged ≡ false
  pub spot_is : spot s' i.irp ≡ record (spot s i.irp) { is_listed = false; is_held = true; is_removed = true }
  pub list : list_of s' ≡ entries_without i.irp (list_of s)
  pub rest : Leaves i.irp s s'

-- a removal of the first match
pub record TakesFirst (peek : Peek) (answer : Option IrpLife) (s s' : Single) : Type 0 where
  pub first : answer ≡ next_listed s.queue.queue None peek
  pub taken : IfSome answer (λ i. Takes i s s')
  pub none : answer ≡ None → IsSameIn s s'

-- i, which a removal gave to the pass, was put back for the file object that it was accepted for, at this place
pub record Relists (i : IrpLife) (place : Place) (s s' : Single) : Type 0 where
  pub was_unflagged : (spot s i.irp).is_flagged ≡ false
  pub spot_is : spot s' i.irp ≡ record (spot s i.irp) { is_listed = true; is_held = false; is_removed = false }
  pub list : list_of s' ≡ put_at place (entry_of i.irp (spot s i.irp).file) (list_of s)
  pub rest : Leaves i.irp s s'

-- a put-back found that i is flagged: the pass holds it, and no longer by a removal
pub record FindsCancelled (i : IrpLife) (s s' : Single) : Type 0 where
  pub was_flagged : (spot s i.irp).is_flagged ≡ true
  pub spot_is : spot s' i.irp ≡ record (spot s i.irp) { is_removed = false }
  pub list : list_of s' ≡ list_of s
  pub rest : Leaves i.irp s s'

-- i was put back or found cancelled
abbrev pub Returns : IrpLife → Place → InsertAnswer IrpLife IrpLife → Single → Single → Type 0
Returns i place (Pending context) s s' = Relists i place s s'
Returns i place (Cancelled token) s s' = FindsCancelled i s s'

-- why a list takes no further IRP for f
abbrev pub crowded : Listing → FileId → Option InsertStatus
crowded s f = if is_file_full s f then Some FileFull else (if length s.entries == s.limit then Some Full else None)

-- why it takes none again for f
abbrev pub closed_or_crowded : Listing → FileId → Option InsertStatus
closed_or_crowded s f = if s.closed f then Some FileClosed else crowded s f

-- why what the pass holds isn't put back, by whether a removal gave it to the pass
abbrev pub back_cause : Bool → Option InsertStatus → Option PutBackRefused
back_cause removed cause = if removed then option_map ByQueue cause else Some NotRemoved

-- a put-back of i, which the pass holds, or the first cause why not
pub record PutsBack (i : IrpLife) (place : Place) (answer : Result (InsertAnswer IrpLife IrpLife) PutBackRefused) (s s' : Single) : Type 0 where
  pub cause : result_err answer ≡ back_cause (spot s i.irp).is_removed (closed_or_crowded (present_listing s.queue.queue) (spot s i.irp).file)
  pub returned : IfOk answer (λ a. Returns i place a s s')
  pub kept : OnErr answer (IsSameIn s s')

-- why what the pass holds isn't completed with this status, by whether a removal gave it to the pass
abbrev pub late_cause : Bool → NtStatus → Option CompleteRefused
late_cause removed status = if status.0 == CANCELLED.0 then None else completion_cause removed status

-- a request of IRP n that the pass held ended: its next life is home, or it was the last
pub record Ends (n : IrpId) (is_last : Bool) (s s' : Single) : Type 0 where
  pub unlisted : (spot s' n).is_listed ≡ false
  pub unheld : (spot s' n).is_held ≡ false
  pub home : is_last ≡ false → ((spot s' n).is_used ≡ false) × ((spot s' n).is_flagged ≡ false) × ((spot s' n).life ≡ (spot s n).life + 1)
  pub spent : is_last ≡ true → ((spot s' n).is_used ≡ true) × ((spot s' n).life ≡ (spot s n).life) × ((spot s n).life ≡ last_life)
  pub list : list_of s' ≡ list_of s
  pub rest : Leaves n s s'

-- a completion of i, which the pass holds, with this status, and the beginning of the next life, if i wasn't the last; or the first cause why not
pub record Finishes (i : IrpLife) (status : NtStatus) (answer : Result Bool CompleteRefused) (s s' : Single) : Type 0 where
  pub cause : result_err answer ≡ late_cause (spot s i.irp).is_removed status
  pub ended : IfOk answer (λ is_last. Ends i.irp is_last s s')
  pub kept : OnErr answer (s' ≡ s)

-- a cancel took i out of the list: the pass holds it, and by no removal
pub record TakesOut (i : IrpLife) (s s' : Single) : Type 0 where
  pub spot_is : spot s' i.irp ≡ record (spot s i.irp) { is_listed = false; is_held = true; is_flagged = true }
  pub list : list_of s' ≡ entries_without i.irp (list_of s)
  pub rest : Leaves i.irp s s'

-- a cancel flagged i, which the pass holds
pub record Flags (i : IrpLife) (s s' : Single) : Type 0 where
  pub spot_is : spot s' i.irp ≡ record (spot s i.irp) { is_flagged = true }
  pub list : list_of s' ≡ list_of s
  pub rest : Leaves i.irp s s'

-- a file object is closed, if there is one; nothing else is new
pub record Closes (f : FileId) (answer : Result (Unit {0}) UnknownFile) (s s' : Single) : Type 0 where
  pub known : IsOk answer ↔ (f.0 < (limits_of s).files)
  pub closed : OnOk answer ((g : FileId) → is_closed s' g ≡ (same_file f g || is_closed s g))
  pub spots : (m : IrpId) → spot s' m ≡ spot s m
  pub list : list_of s' ≡ list_of s
  pub limits : limits_of s' ≡ limits_of s
  pub kept : OnErr answer (s' ≡ s)
