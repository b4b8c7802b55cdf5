-- The order of the calls: where their events stand in the one history, by what each caller was told of the others.
use Rattle.std.specs.Prelude.{◌≡◌, ◌≢◌, ◌⊎◌, ℕ, List, [], ◌∷◌, ◌++◌}
use mathlib.Core.Option.{some}
use lib.ListN.{get_elem?}
use Rattle.irp_core.specs.Programs.{Act}
use Rattle.irp_core.specs.Steps.{own}
use Rattle.csq_list.specs.Listing.{Listing}
use Rattle.csq_words.specs.declared.views.{HistoryEntry.{HistoryEntry}, Event.{Event}, Tick.{Tick}, PassRecord.{PassRecord}, QueueRecord.{QueueRecord}}
use Rattle.csq_words.specs.Queue.{Limits}
use Rattle.csq_words.specs.History.{IsExtendedBy, calls_of}
use Rattle.csq_words.specs.Records.{entries_of}
use Rattle.csq_words.specs.Traces.{steps_in, entries_in, StandInOrder}
use Rattle.csq_words.specs.Finals.{FinalWords}
use Rattle.csq_queue.specs.Effects.{AddsEvents}
use Rattle.csq_queue.specs.Cleanups.{SeesCalls}
use Rattle.csq_queue.specs.Rests.{IsClosed, IsRestOf}
use Rattle.csq_queue.specs.Steps.{made_by}

-- a call under the lock, by what its contract says: its pass before it and after it, the history that it found, and the events that it added to this
pub record LockedCall (limits : Limits) : Type 0 where
  pub old : PassRecord
  pub new : PassRecord
  pub found : List HistoryEntry
  pub events : List Event
  pub adds : AddsEvents limits found old new events

module _ {limits : Limits} where
  -- the events of c, as they stand in the history
  abbrev pub entries : LockedCall limits → List HistoryEntry
  entries c = entries_of c.old.pass c.events

  -- the caller of d was told that c had returned: d's pass had seen, before its call, all that c's had seen after its own. It made both calls itself, or it learned what was handed on, by one caller or by several
  abbrev pub IsToldOf : LockedCall limits → LockedCall limits → Type 0
  IsToldOf d c = IsExtendedBy c.new.seen d.old.seen

  -- c comes before d: d found a history that begins with the one that c left
  abbrev pub ComesBefore : LockedCall limits → LockedCall limits → Type 0
  ComesBefore c d = IsExtendedBy c.new.seen d.found

  -- in this history the events of c stand before those of d, each where its own call left them
  abbrev pub StandBefore : List HistoryEntry → LockedCall limits → LockedCall limits → Type 0
  StandBefore history c d = (after between : List HistoryEntry) × (history ≡ after ++ (entries d ++ (between ++ (entries c ++ c.found))))

-- the calls that add events are in one order, that of the history. Whoever was told of a call comes after it
pub record CallsAreOrdered : Type 0 where
  pub told : (limits : Limits) (c d : LockedCall limits) → IsToldOf d c → ComesBefore c d
  pub transitive : (limits : Limits) (c d e : LockedCall limits) → ComesBefore c d → ComesBefore d e → ComesBefore c e
  pub irreflexive : (limits : Limits) (c : LockedCall limits) → ComesBefore c c → c.events ≡ []
  pub stand : (limits : Limits) (c d : LockedCall limits) → ComesBefore c d → (history : List HistoryEntry) → IsExtendedBy d.new.seen history → StandBefore history c d
  pub total : (limits : Limits) (c d : LockedCall limits) (history : List HistoryEntry) → IsExtendedBy c.new.seen history → IsExtendedBy d.new.seen history
      → c.old.pass ≢ d.old.pass → c.events ≢ [] → d.events ≢ [] → ComesBefore c d ⊎ ComesBefore d c

-- whatever its pass had seen before it, a call found a history that begins with it, and the calls of a cleanup came after it
pub record CallsComeAfterWhatWasSeen : Type 0 where
  pub call : (limits : Limits) (d : LockedCall limits) (seen : List HistoryEntry) → IsExtendedBy seen d.old.seen → IsExtendedBy seen d.found
  pub cleanup : (limits : Limits) (old new : PassRecord) (calls : List Event) → SeesCalls limits old new calls → (seen : List HistoryEntry) → IsExtendedBy seen old.seen
      → (newer others : List HistoryEntry) × (new.seen ≡ newer ++ seen) × (calls_of old.pass newer ≡ entries_of old.pass calls ++ others)

-- whatever its pass had seen of the execution before it, the steps of a call come after it
abbrev pub StepsComeAfterWhatWasSeen : Type 0
StepsComeAfterWhatWasSeen = (limits : Limits) (d : LockedCall limits) (acts : List Act) → d.new.steps ≡ made_by d.old.pass acts ++ d.old.steps → d.old.steps ≡ own d.old.pass (steps_in d.old.trace)
    → (trace : List Tick) → IsExtendedBy trace d.old.trace → (newer between : List Tick) × (d.new.trace ≡ newer ++ (between ++ trace)) × (own d.old.pass (steps_in newer) ≡ made_by d.old.pass acts)

-- a call of the closing pass, or of one whose receipt is shown, stands in the history that is left after each call that it was told of
abbrev pub CallsToldOfCameFirst : Type 0
CallsToldOfCameFirst = (limits : Limits) (pass : PassRecord) (receipts : List PassRecord) (taken : ℕ) (listing : Listing) (finals : FinalWords) → IsRestOf limits pass receipts taken listing finals
    → (c d : LockedCall limits) → IsToldOf d c → (k : ℕ) (r : PassRecord) → get_elem? (pass ∷ receipts) k ≡ some r → IsExtendedBy d.new.seen r.seen → StandBefore finals.queue.history c d

-- the history that is left is that of the execution that is left: each event stands at a step of its own pass, in this order, and each step under the lock has its events
abbrev pub EventsLeftStandInOrder : Type 0
EventsLeftStandInOrder = (limits : Limits) (pass : PassRecord) (receipts : List PassRecord) (taken : ℕ) (listing : Listing) (finals : FinalWords)
    → IsRestOf limits pass receipts taken listing finals → StandInOrder limits.first finals.queue.trace × (entries_in finals.queue.trace ≡ finals.queue.history)

-- so is the history of an open queue that was closed
abbrev pub EventsOfAnOpenQueueStandInOrder : Type 0
EventsOfAnOpenQueueStandInOrder = (limits : Limits) (taken : ℕ) (old : QueueRecord) (listing : Listing) (finals : FinalWords)
    → IsClosed limits taken old listing finals → StandInOrder limits.first finals.queue.trace × (entries_in finals.queue.trace ≡ old.history)
