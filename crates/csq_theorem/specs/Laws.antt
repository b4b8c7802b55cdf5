-- The headline's laws: they follow from what the calls promise and from what is left of a closed queue.
use Rattle.std.specs.Prelude.{◌≡◌, ◌⊎◌, ℕ, ◌<◌, ◌≤◌, List, []}
use mathlib.Core.Option.{some}
use lib.ListN.{get_elem?}
use Rattle.irp_core.specs.declared.ids.PassId.{PassId}
use Rattle.irp_core.specs.Runs.{Size, IsRun}
use Rattle.irp_core.specs.Steps.{own}
use Rattle.csq_list.specs.Listing.{Listing}
use Rattle.csq_words.specs.declared.views.{Event.{Event}, HistoryEntry.{HistoryEntry}, PassRecord.{PassRecord}, QueueRecord.{QueueRecord}, Tick.{Tick}}
use Rattle.csq_words.specs.Queue.{Limits}
use Rattle.csq_words.specs.History.{IsExtendedBy, calls_of}
use Rattle.csq_words.specs.Records.{entries_of, with_calls}
use Rattle.csq_words.specs.Traces.{steps_in, entries_in, IsTrace}
use Rattle.csq_words.specs.Finals.{FinalWords}
use Rattle.csq_words.specs.Stories.{StaysHaveStories}
use Rattle.csq_queue.specs.Effects.{AddsEvents}
use Rattle.csq_queue.specs.Order.{LockedCall}
use Rattle.csq_queue.specs.Rests.{IsClosed, IsRestOf}
use Rattle.csq_theorem.specs.Headline.{IsCorrect, IsCallOf, IsExecution}

-- what is left of a closed queue has a correct execution, with its history
abbrev pub ClosedQueuesAreCorrect : Type 0
ClosedQueuesAreCorrect = (limits : Limits) (pass : PassRecord) (receipts : List PassRecord) (taken : ℕ) (listing : Listing) (finals : FinalWords)
    → IsRestOf limits pass receipts taken listing finals → IsCorrect limits finals.queue.trace × (entries_in finals.queue.trace ≡ finals.queue.history)

-- so has what is left of an open queue, with the history that this had
abbrev pub OpenQueuesAreCorrect : Type 0
OpenQueuesAreCorrect = (limits : Limits) (taken : ℕ) (old : QueueRecord) (listing : Listing) (finals : FinalWords)
    → IsClosed limits taken old listing finals → IsCorrect limits finals.queue.trace × (entries_in finals.queue.trace ≡ old.history)

-- the part of a pass in the execution: it had seen a beginning of it, and its steps and its calls' events in it are those of its record
pub record IsPartOf (trace : List Tick) (r : PassRecord) : Type 0 where
  pub begins : IsExtendedBy r.trace trace
  pub steps : own r.pass (steps_in trace) ≡ r.steps
  pub events : calls_of r.pass (entries_in trace) ≡ r.mine

-- each pass of a queue has such a record, and a number of none of them made no step and no call. Each call says which events and which steps it adds to the record: so no event and no step is without its call
pub record HasNoOthers (passes : ℕ) (trace : List Tick) : Type 0 where
  pub each : (p : PassId) → 1 ≤ p.0 → p.0 ≤ passes → (r : PassRecord) × (r.pass ≡ p) × IsPartOf trace r
  pub nobody : (p : PassId) → (p.0 ≡ 0) ⊎ (passes < p.0) → (own p (steps_in trace) ≡ []) × (calls_of p (entries_in trace) ≡ [])

-- so it is of a closed queue, and the passes with which it was closed are such parts
abbrev pub EventsLeftAreOfCalls : Type 0
EventsLeftAreOfCalls = (limits : Limits) (pass : PassRecord) (receipts : List PassRecord) (taken : ℕ) (listing : Listing) (finals : FinalWords)
    → IsRestOf limits pass receipts taken listing finals
    → IsPartOf finals.queue.trace pass × ((k : ℕ) (r : PassRecord) → get_elem? receipts k ≡ some r → IsPartOf finals.queue.trace r) × HasNoOthers limits.passes finals.queue.trace

-- and of an open one
abbrev pub EventsOfOpenQueuesAreOfCalls : Type 0
EventsOfOpenQueuesAreOfCalls = (limits : Limits) (taken : ℕ) (old : QueueRecord) (listing : Listing) (finals : FinalWords) → IsClosed limits taken old listing finals
    → ((k : ℕ) (r : PassRecord) → get_elem? old.back k ≡ some r → IsPartOf finals.queue.trace r) × HasNoOthers limits.passes finals.queue.trace

-- each call under the lock is in the execution that its pass has seen then, and in that its pass has added just what it had, and this call's events
abbrev pub CallsAreInTheExecution : Type 0
CallsAreInTheExecution = (limits : Limits) (history : List HistoryEntry) (old new : PassRecord) (events : List Event)
    → AddsEvents limits history old new events
    → IsCallOf old.pass old.trace new.trace (entries_of old.pass events) × (calls_of old.pass (entries_in new.trace) ≡ (with_calls events old).mine)

-- what the headline calls an execution has the calls' steps in their order, each with the events that it records: no more than the invariant's
abbrev pub ExecutionsAreTraces : Type 0
ExecutionsAreTraces = (size : Size) (trace : List Tick) → IsExecution size trace → IsTrace size.first trace

-- its steps are a run, so what irp_core's laws say of runs is said of the headline's executions
abbrev pub ExecutionsAreRuns : Type 0
ExecutionsAreRuns = (size : Size) (trace : List Tick) → IsExecution size trace → IsRun size (steps_in trace)

-- a stay that a put-back ended has its story in the execution up to the end of that put-back, as its pass saw it then: the steps by which one pass had set the routine, and this one put it back, are among those
abbrev pub StaysAreOfTheirExecution : Type 0
StaysAreOfTheirExecution = (limits : Limits) (c : LockedCall limits) → StaysHaveStories limits.first (steps_in c.new.trace) c.new.seen
