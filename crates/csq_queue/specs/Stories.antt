-- What happened to each IRP of a queue, and what its passes have seen.
use Rattle.std.specs.Prelude.{ℕ, List, ◌∷◌}
use Rattle.irp_core.specs.declared.ids.IrpLife.{IrpLife}
use Rattle.irp_core.specs.Lives.{HasBegun}
use Rattle.csq_list.specs.Listing.{Listing}
use Rattle.csq_words.specs.declared.views.{PassRecord.{PassRecord}, QueueRecord.{QueueRecord}}
use Rattle.csq_words.specs.Queue.{Limits}
use Rattle.csq_words.specs.Traces.{steps_in}
use Rattle.csq_words.specs.Finals.{FinalWords}
use Rattle.csq_words.specs.Stories.{Story, IsGivenOnce, StaysHaveStories, SeeOneHistory}
use Rattle.csq_queue.specs.Named.{queue_size}
use Rattle.csq_queue.specs.Effects.{queue_with, SeesRun}
use Rattle.csq_queue.specs.Rests.{IsClosed, IsRestOf}

-- in what is left of a closed queue, each IRP has a story in each life that has begun
abbrev pub EachIrpLeftHasAStory : Type 0
EachIrpLeftHasAStory = (limits : Limits) (pass : PassRecord) (receipts : List PassRecord) (taken : ℕ) (listing : Listing) (finals : FinalWords)
    → IsRestOf limits pass receipts taken listing finals → (i : IrpLife) → HasBegun limits.first (steps_in finals.queue.trace) i → Story finals i

-- so it has in what is left of an open queue
abbrev pub EachIrpOfAnOpenQueueHasAStory : Type 0
EachIrpOfAnOpenQueueHasAStory = (limits : Limits) (taken : ℕ) (old : QueueRecord) (listing : Listing) (finals : FinalWords)
    → IsClosed limits taken old listing finals → (i : IrpLife) → HasBegun limits.first (steps_in finals.queue.trace) i → Story finals i

-- in what is left of a closed queue, each stay of an IRP that a put-back ended has its story
abbrev pub EachStayLeftHasAStory : Type 0
EachStayLeftHasAStory = (limits : Limits) (pass : PassRecord) (receipts : List PassRecord) (taken : ℕ) (listing : Listing) (finals : FinalWords)
    → IsRestOf limits pass receipts taken listing finals → StaysHaveStories limits.first (steps_in finals.queue.trace) finals.queue.history

-- so it has in what is left of an open queue, by the history that this had
abbrev pub EachStayInAnOpenQueueHasAStory : Type 0
EachStayInAnOpenQueueHasAStory = (limits : Limits) (taken : ℕ) (old : QueueRecord) (listing : Listing) (finals : FinalWords)
    → IsClosed limits taken old listing finals → StaysHaveStories limits.first (steps_in finals.queue.trace) old.history

-- in what a pass has seen, each life of each IRP was given out at most once
abbrev pub EachIrpSeenIsGivenOnce : Type 0
EachIrpSeenIsGivenOnce = (limits : Limits) (r : PassRecord) → SeesRun (queue_size limits) r → (i : IrpLife) → IsGivenOnce (queue_with limits.first r.seen) (steps_in r.trace) i

-- the closing pass and those of the receipts have seen one history and one execution, those of the queue that is left
abbrev pub ClosingPassesSeeOneHistory : Type 0
ClosingPassesSeeOneHistory = (limits : Limits) (pass : PassRecord) (receipts : List PassRecord) (taken : ℕ) (listing : Listing) (finals : FinalWords)
    → IsRestOf limits pass receipts taken listing finals → SeeOneHistory finals.queue.history finals.queue.trace (pass ∷ receipts)

-- the passes of an open queue that came back have seen one history, that of the queue, and one execution
abbrev pub PassesOfAnOpenQueueSeeOneHistory : Type 0
PassesOfAnOpenQueueSeeOneHistory = (limits : Limits) (taken : ℕ) (old : QueueRecord) (listing : Listing) (finals : FinalWords) → IsClosed limits taken old listing finals → SeeOneHistory old.history finals.queue.trace old.back
