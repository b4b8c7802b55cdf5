-- A queue with its one pass, and what is so of each of its IRPs in the present life.
use Rattle.std.specs.Prelude.{◌≡◌, ◌≢◌, ℕ, ◌<◌, Bool, true, false, if◌then◌else◌, List, Option, Some, None}
use Rattle.std.specs.List.{find}
use Rattle.std.specs.Option.{option_map}
use Rattle.irp_core.specs.declared.ids.{FileId.{FileId}, IrpId.{IrpId}, IrpLife.{IrpLife}}
use Rattle.irp_core.specs.declared.inside.Inside.TheVariants.{Nothing}
use Rattle.irp_core.specs.declared.step.Made.{Made}
use Rattle.irp_core.specs.Lives.{present_life}
use Rattle.irp_core.specs.Own.{holds_in, inside_of, owes_in, removed_in}
use Rattle.irp_core.specs.Owners.{listed as is_listed_by}
use Rattle.irp_core.specs.Runs.{IsRun}
use Rattle.irp_core.specs.Steps.{number}
use Rattle.irp_core.specs.Words.{flagged, was_armed}
use Rattle.csq_list.specs.Searches.{is_of}
use Rattle.csq_list.specs.declared.entry.Entry.{Entry}
use Rattle.csq_words.specs.declared.views.HistoryEntry.{HistoryEntry}
use Rattle.csq_words.specs.History.{IsLegal, end_of}
use Rattle.csq_words.specs.Queue.{Limits, QueueState, has_entry, has_file, has_irp, present_in}
use Rattle.csq_words.specs.Rule.{AreTrueOf}
use Rattle.csq_queue.specs.Looks.{present_queue}
use Rattle.csq_queue.specs.Named.{pass_numbered, queue_size}
use Rattle.csq_checked.specs.Passes.{CheckedPassState, CheckedState, IsPassIn, listed}

-- a queue, and the one pass that it has
pub record Single : Type 0 where
  pub queue : CheckedState
  pub pass : CheckedPassState

-- what is so of an IRP in its present life: whether it is listed, whether the pass holds it, and got it by a removal, whether an insert accepted it and the pass flagged it; which life that is, and the file object that it was accepted for last
pub record Spot : Type 0 where
  pub is_listed : Bool
  pub is_held : Bool
  pub is_removed : Bool
  pub is_used : Bool
  pub is_flagged : Bool
  pub life : ℕ
  pub file : FileId

-- by the queue of one thread, and the steps of the pass
abbrev pub spot_of : QueueState → List Made → IrpId → Spot
spot_of u steps n = record {
  is_listed = has_entry u.entries (present_in u n);
  is_held = holds_in steps (present_in u n);
  is_removed = removed_in steps (present_in u n);
  is_used = has_irp u.used (present_in u n);
  is_flagged = flagged steps (present_in u n);
  life = u.lives n;
  file = u.file_of n;
}

-- the queue of one thread
abbrev pub queue_in : Single → QueueState
queue_in s = present_queue s.queue.queue

-- its limits
abbrev pub limits_of : Single → Limits
limits_of s = s.queue.queue.limits

-- what is so of IRP n
abbrev pub spot : Single → IrpId → Spot
spot s n = spot_of (queue_in s) s.pass.pass.steps n

-- IRP n in its present life
abbrev pub present : Single → IrpId → IrpLife
present s n = present_in (queue_in s) n

-- what is listed, in its order
abbrev pub list_of : Single → List Entry
list_of s = listed s.queue

-- the file object for which IRP n stands among these, if it does
abbrev pub file_listed : List Entry → IrpId → Option FileId
file_listed es n = option_map (λ (e : Entry). e.file) (find (is_of n) es)

-- whether a file object is closed
abbrev pub is_closed : Single → FileId → Bool
is_closed s f = has_file (queue_in s).closed f

-- the steps of the one pass are the whole run, in which it is between two calls and owes nothing; and this history says of the run what is so
pub record IsWholeRun (l : Limits) (h : List HistoryEntry) (steps : List Made) : Type 0 where
  pub is_run : IsRun (queue_size l) steps
  pub outside : inside_of steps ≡ Nothing
  pub owes_none : (i : IrpLife) → owes_in steps i ≡ false
  pub legal : IsLegal l h
  pub true_of : AreTrueOf l.first steps h
  pub listed_is : (i : IrpLife) → has_entry (end_of l.first h).entries i ≡ is_listed_by steps i
  pub used_is : (i : IrpLife) → has_irp (end_of l.first h).used i ≡ was_armed steps i
  pub lives_are : (n : IrpId) → (end_of l.first h).lives n ≡ present_life l.first steps n

-- the queue has one pass, which is this one, and has seen all of the queue's history
pub record IsSingle (queue : CheckedState) (pass : CheckedPassState) : Type 0 where
  pub on : IsPassIn queue.queue pass
  pub one : queue.queue.limits.passes ≡ 1
  pub number : pass.pass.pass ≡ pass_numbered 1
  pub seen : pass.pass.seen ≡ queue.queue.queue.history
  pub run : IsWholeRun queue.queue.limits queue.queue.queue.history pass.pass.steps

-- all but IRP n is as it was; whether it is listed shows its list
pub record Leaves (n : IrpId) (s s' : Single) : Type 0 where
  pub others : (m : IrpId) → m.0 ≢ n.0 → spot s' m ≡ spot s m
  pub closed : (f : FileId) → is_closed s' f ≡ is_closed s f
  pub limits : limits_of s' ≡ limits_of s

-- nothing is new of any IRP, nor of a file object
pub record IsSameIn (s s' : Single) : Type 0 where
  pub spots : (m : IrpId) → spot s' m ≡ spot s m
  pub closed : (f : FileId) → is_closed s' f ≡ is_closed s f
  pub limits : limits_of s' ≡ limits_of s
  pub list : list_of s' ≡ list_of s

-- i is the present life of an IRP that there is
pub record IsKnown (i : IrpLife) (s : Single) : Type 0 where
  pub in_range : number i < (limits_of s).irps
  pub is_present : i ≡ present s i.irp

-- the pass holds i, an IRP that there is
pub record HoldsKnown (i : IrpLife) (p : CheckedPassState) : Type 0 where
  pub in_range : number i < p.words.size.irps
  pub held : holds_in p.pass.steps i ≡ true

-- IRP n stands in the list exactly if it is listed, for the file object that it was accepted for
abbrev pub IsListedSo : Single → IrpId → Type 0
IsListedSo s n = file_listed (list_of s) n ≡ (if (spot s n).is_listed then Some (spot s n).file else None)
