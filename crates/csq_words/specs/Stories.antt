-- The story of an IRP in one of its lives: who inserted it, who was given it, who claimed it, and who completed it. And the one history and execution that all passes have seen.
use Rattle.std.specs.Prelude.{◌≡◌, ◌≤◌, ◌⊎◌, ℕ, Bool, true, false, List, [], ◌∷◌, ◌++◌, length, Some, if◌then◌else◌}
use mathlib.Core.Option.{some}
use lib.ListN.{get_elem?}
use Rattle.irp_core.specs.Steps.{same_irp, own}
use Rattle.irp_core.specs.declared.ids.{IrpLife.{IrpLife}, PassId.{PassId}}
use Rattle.irp_core.specs.Words.{flagged}
use Rattle.irp_core.specs.Owners.{claims, dones}
use Rattle.irp_core.specs.Lives.{IsPresent, HasBegun}
use Rattle.irp_core.specs.Runs.{Size}
use Rattle.irp_core.specs.declared.status.{NtStatus.{NtStatus}, TheConstants.NtStatus.{CANCELLED}}
use Rattle.irp_core.specs.declared.step.Made.{Made}
use Rattle.irp_core.specs.declared.inside.Inside.{Inside}
use Rattle.csq_words.specs.declared.views.{InsertReply.TheVariants.{Pending, Cancelled}, Event.{Event, TheVariants.{Insert, PutBack}}, HistoryEntry.{HistoryEntry}, Tick.{Tick}, PassRecord.{PassRecord}, QueueRecord.{QueueRecord}}
use Rattle.csq_words.specs.Queue.{QueueState, present_in, has_entry}
use Rattle.csq_words.specs.History.{end_of, puts_back, given_to, calls_of, IsExtendedBy}
use Rattle.csq_words.specs.Records.{queue_of}
use Rattle.csq_words.specs.Traces.{steps_in}
use Rattle.csq_words.specs.Rule.{was_set, was_put_back, again, IsHistoryOf, HasBack, RecordsAgree, QueueHasRun}
use Rattle.irp_core.specs.Own.{inside_of}
use Rattle.csq_words.specs.Plays.{status_recorded}
use Rattle.csq_words.specs.Finals.{FinalWords, final_status, AllBack, IsFinal, InLife, shows_cancelled}

-- the event, which finds the queue so, is an insert or a put-back that accepted i
abbrev pub accepts : QueueState → IrpLife → Event → Bool
accepts u i (Insert n f place Pending) = same_irp (present_in u n) i
accepts u i (Insert n f place Cancelled) = same_irp (present_in u n) i
accepts u i (PutBack j f place Pending) = same_irp j i
accepts u i (PutBack j f place Cancelled) = same_irp j i
accepts u i _ = false

-- the passes whose inserts accepted i, the newest first; if it was put back, the pass that did so last
abbrev pub inserted_by : ℕ → IrpLife → List HistoryEntry → List PassId
inserted_by first i [] = []
inserted_by first i (e ∷ history) =
    let rest = if puts_back i e.event then [] else inserted_by first i history in if accepts (end_of first history) i e.event then e.pass ∷ rest else rest

-- the steps are one, of p
abbrev pub IsOneOf : PassId → List Made → Type 0
IsOneOf p steps = (m : Made) × (steps ≡ m ∷ []) × (m.pass ≡ p)

-- p came back, with the one record that it has, by which it completed i with this status
abbrev pub HasRecorded : QueueRecord → PassId → IrpLife → NtStatus → Type 0
HasRecorded q p i status = (k : ℕ) × (r : PassRecord) × (get_elem? q.back k ≡ some r) × (r.pass ≡ p) × (status_recorded i r.completed ≡ Some status)
    × ((j : ℕ) (s : PassRecord) → get_elem? q.back j ≡ some s → s.pass ≡ p → s ≡ r)

-- i, in its present life, was never inserted: it was given to none, and none claimed or completed it
pub record NeverInserted (q : QueueRecord) (i : IrpLife) : Type 0 where
  pub is_present : IsPresent q.first (steps_in q.trace) i
  pub inserted : inserted_by q.first i q.history ≡ []
  pub given : given_to q.first i q.history ≡ []
  pub claimed : claims (steps_in q.trace) i ≡ []
  pub completed : dones (steps_in q.trace) i ≡ []

-- i, in its present life, was inserted by one pass, or put back last by it, and is listed with its flag clear: it was given to none, and none claimed or completed it
pub record StillListed (q : QueueRecord) (i : IrpLife) : Type 0 where
  pub is_present : IsPresent q.first (steps_in q.trace) i
  pub listed : has_entry (queue_of q).entries i ≡ true
  pub clear : flagged (steps_in q.trace) i ≡ false
  pub inserter : PassId
  pub inserted : inserted_by q.first i q.history ≡ inserter ∷ []
  pub armed : was_set (own inserter (steps_in q.trace)) i ≡ true
  pub given : given_to q.first i q.history ≡ []
  pub claimed : claims (steps_in q.trace) i ≡ []
  pub completed : dones (steps_in q.trace) i ≡ []

-- i was inserted by one pass, or put back last by it, and since then given to one, which made its one claim since then and its one completion, with the status that it recorded: STATUS_CANCELLED if the history says that i was cancelled. In the present life this is the final status
pub record HasEnded (finals : FinalWords) (q : QueueRecord) (i : IrpLife) : Type 0 where
  pub unlisted : has_entry (queue_of q).entries i ≡ false
  pub inserter : PassId
  pub inserted : inserted_by q.first i q.history ≡ inserter ∷ []
  pub armed : was_set (own inserter (steps_in q.trace)) i ≡ true
  pub owner : PassId
  pub given : given_to q.first i q.history ≡ owner ∷ []
  pub claimed : IsOneOf owner (claims (steps_in q.trace) i)
  pub completed : IsOneOf owner (dones (steps_in q.trace) i)
  pub status : NtStatus
  pub recorded : HasRecorded q owner i status
  pub cancelled : shows_cancelled q.first i q.history ≡ true → status ≡ CANCELLED
  pub final : InLife finals i (final_status finals i.irp ≡ Some status)

-- what happened to i
abbrev pub Story : FinalWords → IrpLife → Type 0
Story finals i = NeverInserted finals.queue i ⊎ StillListed finals.queue i ⊎ HasEnded finals finals.queue i

-- every life that has begun has a story
abbrev pub EachIrpHasAStory : Type 0
EachIrpHasAStory = (size : Size) (words : List ℕ) (q : QueueRecord) → IsFinal size words q → AllBack q → (i : IrpLife) → HasBegun size.first (steps_in q.trace) i → Story (record { irps = size.irps; words = words; queue = q }) i

-- of a history with which a run agrees: at most one pass inserted i, and at most one was given i, since it was last put back. This one made the one claim of i since then, and whoever completed i was given it
pub record IsGivenOnce (q : QueueRecord) (run : List Made) (i : IrpLife) : Type 0 where
  pub inserted : length (inserted_by q.first i q.history) ≤ 1
  pub given : length (given_to q.first i q.history) ≤ 1
  pub claimed : (p : PassId) → given_to q.first i q.history ≡ p ∷ [] → IsOneOf p (claims run i)
  pub completed : (p : PassId) → IsOneOf p (dones run i) → given_to q.first i q.history ≡ p ∷ []

-- at every step, each life of each IRP is given out at most once since it was last put back, if the pass that the record is joined with isn't just putting it back
abbrev pub EachIrpIsGivenOnce : Type 0
EachIrpIsGivenOnce = (size : Size) (q : QueueRecord) (r : PassRecord) (trace : List Tick) → RecordsAgree size trace q r → (i : IrpLife) → again (inside_of r.steps) i ≡ false → IsGivenOnce q (steps_in trace) i

-- how a stay of i in the queue came to an end that p put back, by the events before that: one pass had inserted i, or put it back before, and one was given it, p
pub record StayEnded (first : ℕ) (run : List Made) (before : List HistoryEntry) (i : IrpLife) (p : PassId) : Type 0 where
  pub inserter : PassId
  pub inserted : inserted_by first i before ≡ inserter ∷ []
  pub armed : was_set (own inserter run) i ≡ true
  pub given : given_to first i before ≡ p ∷ []
  pub rearmed : was_put_back (own p run) i ≡ true

-- so ended each stay of this history that a put-back ended
abbrev pub StaysHaveStories : ℕ → List Made → List HistoryEntry → Type 0
StaysHaveStories first run history = (newer before : List HistoryEntry) (e : HistoryEntry) → history ≡ newer ++ (e ∷ before) → (i : IrpLife) → puts_back i e.event ≡ true → StayEnded first run before i e.pass

-- at every step, each stay that a put-back ended has its story
abbrev pub EachStayHasAStory : Type 0
EachStayHasAStory = (size : Size) (run : List Made) (q : QueueRecord) (flight : Inside) → IsHistoryOf size run q flight → StaysHaveStories q.first run q.history

-- no two of these hold
abbrev pub AtMostOne : Type 0 → Type 0 → Type 0 → Type 0
AtMostOne A B C = (A → B → ⊥) × (A → C → ⊥) × (B → C → ⊥)

-- of the three stories of an IRP no two hold
abbrev pub NoIrpHasTwoStories : Type 0
NoIrpHasTwoStories = (finals : FinalWords) (q : QueueRecord) (i : IrpLife) → AtMostOne (NeverInserted q i) (StillListed q i) (HasEnded finals q i)

-- in the story of a life, whichever, the status is the one that a pass recorded, and this is the pass that i was given to
abbrev pub StoriesHaveTheStatusRecorded : Type 0
StoriesHaveTheStatusRecorded = (size : Size) (words : List ℕ) (q : QueueRecord) → IsFinal size words q → (finals : FinalWords) (i : IrpLife) (story : HasEnded finals q i)
    → (r : PassRecord) → HasBack q r → (status : NtStatus) → status_recorded i r.completed ≡ Some status → (story.owner ≡ r.pass) × (story.status ≡ status)

module _ {A : Type 0} where
  -- one of these histories, or executions, goes on from the other
  abbrev pub AreComparable : List A → List A → Type 0
  AreComparable h g = IsExtendedBy h g ⊎ IsExtendedBy g h

-- these passes have seen one history and one execution. It begins with what each of them has seen, and the calls and the steps of each are its calls and its steps there, in that order. So what one of them has seen begins with what another has, or the other way round
pub record SeeOneHistory (history : List HistoryEntry) (trace : List Tick) (passes : List PassRecord) : Type 0 where
  pub seen : (k : ℕ) (r : PassRecord) → get_elem? passes k ≡ some r → IsExtendedBy r.seen history
  pub calls : (k : ℕ) (r : PassRecord) → get_elem? passes k ≡ some r → r.mine ≡ calls_of r.pass history
  pub traces : (k : ℕ) (r : PassRecord) → get_elem? passes k ≡ some r → IsExtendedBy r.trace trace
  pub steps : (k : ℕ) (r : PassRecord) → get_elem? passes k ≡ some r → r.steps ≡ own r.pass (steps_in trace)
  pub one_history : (j k : ℕ) (r s : PassRecord) → get_elem? passes j ≡ some r → get_elem? passes k ≡ some s → AreComparable r.seen s.seen
  pub one_execution : (j k : ℕ) (r s : PassRecord) → get_elem? passes j ≡ some r → get_elem? passes k ≡ some s → AreComparable r.trace s.trace

-- passes that were joined with a queue's record have seen its history and an execution that both agree with
abbrev pub JoinedPassesSeeOneHistory : Type 0
JoinedPassesSeeOneHistory = (size : Size) (trace : List Tick) (q : QueueRecord) (r s : PassRecord) → RecordsAgree size trace q r → RecordsAgree size trace q s → SeeOneHistory q.history trace (r ∷ s ∷ [])

-- the passes that are back have seen the queue's history and execution
abbrev pub PassesBackSeeOneHistory : Type 0
PassesBackSeeOneHistory = (size : Size) (q : QueueRecord) → QueueHasRun size q → SeeOneHistory q.history q.trace q.back

-- those of a closed queue have seen them
abbrev pub PassesAtTheEndSeeOneHistory : Type 0
PassesAtTheEndSeeOneHistory = (size : Size) (words : List ℕ) (q : QueueRecord) → IsFinal size words q → SeeOneHistory q.history q.trace q.back
