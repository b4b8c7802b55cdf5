-- What is left of a closed queue is correct, and each call is in its execution.
use Rattle.std.proofs.Common.{◌≡◌, ◌≢◌, ◌<◌, inl, inr, ⊎_elim, ℕ, Bool, true, false, true≢false, List, [], ◌∷◌, ◌++◌, refl, sym, ap, ◌∙◌, subst}
use mathlib.Core.Option.{some}
use lib.ListN.{get_elem?}
use Rattle.csq_words.proofs.Imports.{cases_lt, false_from_ne_true, or_right, list_any, Made, PassId, IrpLife, Standing, Home, Waiting, Owed, Held, Finished, number, flagged, was_armed, claims, dones, listed, has_gone, Row, stands, rest_flagged, same_pass-refl}
use Rattle.irp_core.proofs.Growing.{whole_outside}
use Rattle.irp_core.specs.Runs.{Size, IsRun, IsAtRest}
use Rattle.csq_words.specs.declared.views.{PassRecord.{PassRecord}, QueueRecord.{QueueRecord}, Tick.{Tick, TheVariants.{Enters, Leaves, Says}}}
use Rattle.csq_words.specs.Queue.{Limits, has_entry}
use Rattle.csq_words.specs.History.{IsLegal, calls_of, end_of}
use Rattle.csq_words.specs.Traces.{steps_in, entries_in, is_turn, IsTrace}
use Rattle.csq_words.specs.Finals.{AllBack, IsFinal}
use Rattle.csq_words.specs.Rule.{HasBack}
use Rattle.csq_words.proofs.RealTime.{in_real_time}
use Rattle.csq_queue.specs.Named.{queue_size}
use Rattle.csq_queue.specs.Rests.{GivenBack}
use Rattle.csq_queue.proofs.Backing.{still_at}
use Rattle.csq_theorem.specs.Headline.{Story, IsCorrect}
use Rattle.csq_theorem.specs.Laws.{ClosedQueuesAreCorrect, OpenQueuesAreCorrect, CallsAreInTheExecution, EventsLeftAreOfCalls, EventsOfOpenQueuesAreOfCalls, HasNoOthers, IsPartOf}
use Rattle.csq_theorem.proofs.Executions.{is_execution}
use Rattle.csq_theorem.proofs.Sequential.{is_sequential}

-- the story of an IRP that nobody owes or holds
module _ (E : List Made) (i : IrpLife) (unflagged : listed E i ≡ true → flagged E i ≡ false) (set : Bool) (owing holding done : PassId → Bool) (by_removal : Bool) where
  story_of : (s : Standing) → Row (was_armed E i) set (claims E i) owing holding done (dones E i) (has_gone E i) by_removal i s
      → ((p : PassId) → owing p ≡ false) → ((p : PassId) → holding p ≡ false) → Story E i
  story_of Home h none_owes none_holds = inl (h.ever_is, h.dones_are)
  story_of Waiting h none_owes none_holds = inr (inl (there h, unflagged (there h), h.claims_are, h.dones_are))
    where
      there : Row (was_armed E i) set (claims E i) owing holding done (dones E i) (has_gone E i) by_removal i Waiting → listed E i ≡ true
      there r = rw (r.ever_is, r.left_is) refl
  story_of (Finished status p) h none_owes none_holds = inr (inr (h.claims_are.0, h.dones_are.0, h.claims_are.1, h.dones_are.1, h.claims_are.2 ∙ sym h.dones_are.2))
  story_of (Owed p) h none_owes none_holds = absurd (true≢false (sym (h.owing_is p ∙ same_pass-refl p) ∙ none_owes p))
  story_of (Held p status) h none_owes none_holds = absurd (true≢false (sym (h.holding_is p ∙ same_pass-refl p) ∙ none_holds p))

module _ (size : Size) (E : List Made) (run : IsRun size E) where
  story : IsAtRest E → (i : IrpLife) → Story E i
  story rests i = let s = stands size E run i in story_of E i (λ there. false_from_ne_true (flagged E i) (λ e. rest_flagged size E run rests i (e, there))) _ _ _ _ _ s.0 s.1 (λ p. rests.owed p i) (λ p. rests.held p i)

final_correct : (limits : Limits) (words : List ℕ) (q : QueueRecord) → IsFinal (queue_size limits) words q → q.first ≡ limits.first → IsLegal limits q.history → IsCorrect limits q.trace
final_correct limits words q last first legal =
    let run = last.agrees.history_is.is_run in record {
      execution = is_execution (queue_size limits) q.trace (subst (λ n. IsTrace n q.trace) first last.is_trace) run;
      finished = λ p. whole_outside p (steps_in q.trace) (last.rests.outside p);
      all_left = last.all_left;
      list_is = λ i. subst (λ n. has_entry (end_of n (entries_in q.trace)).entries i ≡ listed (steps_in q.trace) i) first
          (ap (λ history. has_entry (end_of q.first history).entries i) last.entries_are ∙ last.agrees.history_is.listed_is i);
      sequential = is_sequential limits (entries_in q.trace) (subst (IsLegal limits) (sym last.entries_are) legal);
      in_its_call = λ e newer older is. (in_real_time q.first q.trace last.is_trace).each (Says e) newer older is;
      in_real_time = (in_real_time q.first q.trace last.is_trace).order;
      stories = story (queue_size limits) (steps_in q.trace) run last.rests;
    }

pub closed_correct : ClosedQueuesAreCorrect
closed_correct limits pass receipts taken listing finals rest = (final_correct limits finals.words finals.queue rest.last rest.first_is rest.legal, rest.last.entries_are)

pub open_correct : OpenQueuesAreCorrect
open_correct limits taken old listing finals closed = (final_correct limits finals.words finals.queue closed.last closed.first_is closed.legal, closed.last.entries_are ∙ closed.given.history)

module _ (size : Size) (words : List ℕ) (q : QueueRecord) (last : IsFinal size words q) where
  -- a record that is back is a part
  part : (r : PassRecord) → HasBack q r → IsPartOf q.trace r
  part r back = let of_pass = (last.agrees.backs back.0 r back.1).is_record.of_pass in record {
    begins = last.backs_seen back.0 r back.1;
    steps = sym of_pass.steps_is;
    events = ap (calls_of r.pass) last.entries_are ∙ sym of_pass.mine_is;
  }

  no_others : AllBack q → HasNoOthers q.made q.trace
  no_others all = record {
    each = λ p from to. let back = all p from to in (back.1, back.3, part back.1 (back.0, back.2));
    nobody = λ p none. let by = last.agrees.nobody p none in (by.0, ap (calls_of p) last.entries_are ∙ by.1);
  }

pub left_of_calls : EventsLeftAreOfCalls
left_of_calls limits pass receipts taken listing finals rest =
    let q = finals.queue in (
      part (queue_size limits) finals.words q rest.last pass rest.back.closing,
      λ k r at. part (queue_size limits) finals.words q rest.last r (rest.back.given k r at),
      subst (λ n. HasNoOthers n q.trace) rest.back.made (no_others (queue_size limits) finals.words q rest.last rest.back.all),
    )

pub open_of_calls : EventsOfOpenQueuesAreOfCalls
open_of_calls limits taken old listing finals closed =
    let q = finals.queue in
    (λ k r at. part (queue_size limits) finals.words q closed.last r (kept_back closed.given k r at), subst (λ n. HasNoOthers n q.trace) closed.made (no_others (queue_size limits) finals.words q closed.last closed.all))
  where
    kept_back : {from to : ℕ} {old new : QueueRecord} → GivenBack from to old new → (k : ℕ) (r : PassRecord) → get_elem? old.back k ≡ some r → HasBack new r
    kept_back {old} g k r at = subst (λ (rs : List PassRecord). (n : ℕ) × (get_elem? rs n ≡ some r)) (sym g.kept) (still_at g.newer old.back r (k, at))

-- a turn is found wherever it stands
turn_found : (x : Tick) (newer older : List Tick) → is_turn x ≡ true → list_any is_turn (newer ++ (x ∷ older)) ≡ true
turn_found x [] older turn = rw turn refl
turn_found x (y ∷ newer) older turn = or_right (is_turn y) (list_any is_turn (newer ++ (x ∷ older))) (turn_found x newer older turn)

-- without one there is none
no_turn : (within : List Tick) → list_any is_turn within ≡ false → (x : Tick) → is_turn x ≡ true → (newer older : List Tick) → within ≢ newer ++ (x ∷ older)
no_turn within none x turn newer older is = true≢false (sym (turn_found x newer older turn) ∙ (ap (list_any is_turn) (sym is) ∙ none))

pub calls_in : CallsAreInTheExecution
calls_in limits history old new events adds = (
  (
    adds.call.follows.0,
    adds.call.entered.within,
    adds.call.entered.trace_is ∙ ap (λ before. adds.call.entered.within ++ (Enters old.pass ∷ before)) adds.call.follows.1,
    adds.call.events_are,
    λ q newer older. (no_turn adds.call.entered.within adds.call.entered.stays (Enters q) refl newer older, no_turn adds.call.entered.within adds.call.entered.stays (Leaves q) refl newer older),
  ),
  ap (calls_of old.pass) adds.sees.agrees.entries_are ∙ (sym (ap (λ p. calls_of p new.seen) adds.pass) ∙ (sym adds.once ∙ adds.calls)),
)
