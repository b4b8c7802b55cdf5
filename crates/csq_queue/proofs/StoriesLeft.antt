-- What is left of a queue that was closed gives the story of each IRP, and what the passes have seen.
use Rattle.std.proofs.Common.{◌≡◌, ℕ, zero, suc, List, ◌∷◌, ap, ◌∙◌, sym, subst}
use Rattle.csq_queue.proofs.Imports.{steps_in, some, some-injective, get_elem?, IrpLife, Nothing, HasBegun, Listing, HistoryEntry, PassRecord, QueueRecord, Limits, HasBack, FinalWords, AllBack, IsFinal, queue_size, IsRestOf, IsClosed}
use Rattle.csq_words.specs.Stories.{Story, StaysHaveStories, SeeOneHistory}
use Rattle.csq_words.proofs.Stories.{a_story, stay_story}
use Rattle.csq_words.proofs.OneHistory.{recorded_see}
use Rattle.csq_queue.proofs.Backing.{still_at}

-- the words are of as many IRPs as the limits say
pub story_left : (limits : Limits) (finals : FinalWords) → finals.irps ≡ limits.irps → IsFinal (queue_size limits) finals.words finals.queue → AllBack finals.queue → (i : IrpLife) → HasBegun limits.first (steps_in finals.queue.trace) i → Story finals i
story_left limits finals irps last all i begun = subst (λ (f : FinalWords). Story f i) (λ k. record { irps = sym irps k; words = finals.words; queue = finals.queue }) (a_story (queue_size limits) finals.words finals.queue last all i begun)

pub stay_left : (limits : Limits) (pass : PassRecord) (receipts : List PassRecord) (taken : ℕ) (listing : Listing) (finals : FinalWords)
    → IsRestOf limits pass receipts taken listing finals → StaysHaveStories limits.first (steps_in finals.queue.trace) finals.queue.history
stay_left limits pass receipts taken listing finals rest =
    subst (λ (first : ℕ). StaysHaveStories first (steps_in finals.queue.trace) finals.queue.history) rest.first_is (stay_story (queue_size limits) (steps_in finals.queue.trace) finals.queue Nothing rest.last.agrees.history_is)

pub stay_in_open : (limits : Limits) (taken : ℕ) (old : QueueRecord) (listing : Listing) (finals : FinalWords) → IsClosed limits taken old listing finals → StaysHaveStories limits.first (steps_in finals.queue.trace) old.history
stay_in_open limits taken old listing finals closed =
    subst (λ (z : ℕ × List HistoryEntry). StaysHaveStories z.0 (steps_in finals.queue.trace) z.1) (λ k. (closed.first_is k, closed.given.history k)) (stay_story (queue_size limits) (steps_in finals.queue.trace) finals.queue Nothing closed.last.agrees.history_is)

pub closing_see : (limits : Limits) (pass : PassRecord) (receipts : List PassRecord) (taken : ℕ) (listing : Listing) (finals : FinalWords)
    → IsRestOf limits pass receipts taken listing finals → SeeOneHistory finals.queue.history finals.queue.trace (pass ∷ receipts)
closing_see limits pass receipts taken listing finals rest = recorded_see (queue_size limits) finals.words finals.queue rest.last (pass ∷ receipts) back
  where
    back : (k : ℕ) (r : PassRecord) → get_elem? (pass ∷ receipts) k ≡ some r → HasBack finals.queue r
    back zero r at = subst (HasBack finals.queue) (some-injective pass r at) rest.back.closing
    back (suc k) r at = rest.back.given k r at

pub open_see : (limits : Limits) (taken : ℕ) (old : QueueRecord) (listing : Listing) (finals : FinalWords) → IsClosed limits taken old listing finals → SeeOneHistory old.history finals.queue.trace old.back
open_see limits taken old listing finals closed =
    let given = closed.given in
    subst (λ (history : List HistoryEntry). SeeOneHistory history finals.queue.trace old.back) given.history
    (recorded_see (queue_size limits) finals.words finals.queue closed.last old.back
    (λ k r at. let there = still_at given.newer old.back r (k, at) in (there.0, ap (λ (back : List PassRecord). get_elem? back there.0) given.kept ∙ there.1)))
