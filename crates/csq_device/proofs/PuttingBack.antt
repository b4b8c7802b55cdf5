-- A busy worker's turn: what it removed it puts back, or completes.
use Rattle.std.proofs.Common.{◌≡◌, ℕ, ◌+◌, Bool, true, false, not, cond, List, [], ◌∷◌, ◌++◌, filter, Some, Result, Ok, Err, refl, sym, ap, ◌∙◌, subst, ⊎_elim, add-one}
use Rattle.csq_device.proofs.Imports.{same_irp, FileId, IrpLife, PassId, NtStatus, Test, Disarm, Done, Rearm, same_irp-refl, Completion, HistoryEntry, Event, PutBack, PassRecord, QueueState, Limits, has_marked, saw, entries_of, only_calls, with_step, with_completion, InsertAnswer, IsPutBack, GivesOut, MakesCalls, PutsOneBack, PutsEachBack, OwnsNothing, HasCompleted}
use Rattle.irp_core.specs.Words.{flagged}
use Rattle.irp_core.specs.Own.{held_list, owed_list}
use Rattle.irp_core.specs.declared.step.Made.{Made}
use Rattle.csq_list.specs.declared.entry.Place.{Place}
use Rattle.csq_list.specs.declared.refusals.InsertStatus.{InsertStatus}
use Rattle.csq_words.specs.declared.views.InsertReply.{InsertReply}
use Rattle.csq_words.specs.declared.views.InsertReply.TheVariants as reply
use Rattle.csq_queue.specs.declared.tokens.InsertAnswer.TheVariants.{Pending, Cancelled}
use Rattle.csq_queue.specs.Steps.{made_by, MakesSteps, put_back_steps}
use Rattle.csq_queue.specs.Effects.{AddsEvents}
use Rattle.csq_device.proofs.Working.{alone}

-- no step of a put-back is a Flag
no_flag : (p : PassId) (answer : Result (InsertAnswer IrpLife IrpLife) InsertStatus) (u : QueueState) (steps : List Made) (j : IrpLife) → flagged (made_by p (put_back_steps answer u) ++ steps) j ≡ flagged steps j
no_flag p (Err cause) u steps j = refl
no_flag p (Ok (Cancelled k)) u steps j = refl
no_flag p (Ok (Pending k)) u steps j = at (has_marked u.entries k)
  where
    at : (b : Bool) → flagged (made_by p (cond b ((Disarm k, 0) ∷ (Test k, 1) ∷ (Rearm k, 0) ∷ []) ((Test k, 0) ∷ (Rearm k, 0) ∷ [])) ++ steps) j ≡ flagged steps j
    at true = refl
    at false = refl

-- of the events of a put-back just one is a call
call_of_back : (p : PassId) (i : IrpLife) (f : FileId) (place : Place) (back : InsertAnswer IrpLife IrpLife) (events : List Event) → IsPutBack i f place back events
    → (r : InsertReply) × (only_calls (entries_of p events) ≡ entries_of p (PutBack i f place r ∷ []))
call_of_back p i f place (Pending context) events h = (
  reply.Pending,
  ⊎_elim (λ e. ap (λ (es : List Event). only_calls (entries_of p es)) e) (λ e. ap (λ (es : List Event). only_calls (entries_of p es)) e) h.1,
)
call_of_back p i f place (Cancelled token) events h = (reply.Cancelled, ap (λ (es : List Event). only_calls (entries_of p es)) h.1)

-- an accepted put-back
pub back_calls : (l : Limits) (i : IrpLife) (f : FileId) (place : Place) (back : InsertAnswer IrpLife IrpLife) (u : QueueState) (events : List Event) (history : List HistoryEntry) (old new : PassRecord)
    → IsPutBack i f place back events → AddsEvents l history old new events → MakesSteps (put_back_steps (Ok back) u) old new → (r : InsertReply) × MakesCalls (PutBack i f place r ∷ []) old new
back_calls l i f place back u events history old new is adds made =
    let call = call_of_back old.pass i f place back events is in
    (call.0, record { pass = made.pass; mine = adds.calls ∙ ap (λ (es : List HistoryEntry). es ++ old.mine) call.1; unflagged = λ j. ap (λ (s : List Made). flagged s j) made.steps ∙ no_flag old.pass (Ok back) u old.steps j; found = made.found })

-- a refused one
pub refused_back_calls : (l : Limits) (i : IrpLife) (f : FileId) (place : Place) (r : InsertReply) (history : List HistoryEntry) (old new : PassRecord) → AddsEvents l history old new (PutBack i f place r ∷ []) → MakesSteps [] old new → MakesCalls (PutBack i f place r ∷ []) old new
refused_back_calls l i f place r history old new adds made = record { pass = made.pass; mine = adds.calls; unflagged = λ j. ap (λ (s : List Made). flagged s j) made.steps; found = made.found }

-- i alone, put back and got again, and then completed
alone_again : (i : IrpLife) → filter (λ j. not (same_irp i j)) (i ∷ filter (λ j. not (same_irp i j)) (i ∷ [])) ≡ []
alone_again i =
    let none_of : List IrpLife → List IrpLife = λ is. filter (λ j. not (same_irp i j)) is in
    ap (λ (b : Bool). cond (not b) (i ∷ none_of (none_of (i ∷ []))) (none_of (none_of (i ∷ [])))) (same_irp-refl i) ∙ ap none_of (alone i)

module _ (status : NtStatus) (l : Limits) (i : IrpLife) (old mid new : PassRecord) (g : GivesOut l (Some i) true old mid) where
  -- where the pass was idle it holds i alone
  holds_one : OwnsNothing old → held_list mid.steps ≡ i ∷ []
  holds_one was = g.holding ∙ ap (λ (is : List IrpLife). i ∷ is) was.held

  -- i was put back, and the pass has it no longer
  back_pending : (u : QueueState) → MakesSteps (put_back_steps (Ok (Pending i)) u) mid new → HasCompleted status 0 old new
  back_pending u made = record {
    irps = [];
    count_is = refl;
    completed = made.completed ∙ g.completed;
    idle = λ was. record {
      held = ap held_list made.steps ∙ (held_is (has_marked u.entries i) ∙ (ap (λ (is : List IrpLife). filter (λ j. not (same_irp i j)) is) (holds_one was) ∙ alone i));
      owed = ap owed_list made.steps ∙ (owed_is (has_marked u.entries i) ∙ (g.owing ∙ was.owed));
    };
  }
    where
      held_is : (b : Bool) → held_list (made_by mid.pass (cond b ((Disarm i, 0) ∷ (Test i, 1) ∷ (Rearm i, 0) ∷ []) ((Test i, 0) ∷ (Rearm i, 0) ∷ [])) ++ mid.steps) ≡ filter (λ j. not (same_irp i j)) (held_list mid.steps)
      held_is true = refl
      held_is false = refl

      owed_is : (b : Bool) → owed_list (made_by mid.pass (cond b ((Disarm i, 0) ∷ (Test i, 1) ∷ (Rearm i, 0) ∷ []) ((Test i, 0) ∷ (Rearm i, 0) ∷ [])) ++ mid.steps) ≡ owed_list mid.steps
      owed_is true = refl
      owed_is false = refl

  -- it was completed then
  module _ (end : PassRecord) (e : end ≡ saw end.trace (with_completion i status (with_step (Done i) 0 new))) where
    completed_it : new.completed ≡ mid.completed → end.completed ≡ record { irp = i; status = status } ∷ old.completed
    completed_it same = ap (λ (r : PassRecord). r.completed) e ∙ ap (λ (t : List Completion). record { irp = i; status = status } ∷ t) (same ∙ g.completed)

    -- it came back cancelled
    back_cancelled : (u : QueueState) → MakesSteps (put_back_steps (Ok (Cancelled i)) u) mid new → HasCompleted status 1 old end
    back_cancelled u made = record {
      irps = i ∷ [];
      count_is = refl;
      completed = completed_it made.completed;
      idle = λ was. record {
        held = ap (λ (r : PassRecord). held_list r.steps) e
            ∙ (ap (λ (s : List Made). filter (λ j. not (same_irp i j)) (held_list s)) made.steps
            ∙ (ap (λ (is : List IrpLife). filter (λ j. not (same_irp i j)) (i ∷ filter (λ j. not (same_irp i j)) is)) (holds_one was) ∙ alone_again i));
        owed = ap (λ (r : PassRecord). owed_list r.steps) e ∙ (ap owed_list made.steps ∙ (g.owing ∙ was.owed));
      };
    }

    -- it can't be put back any more
    back_refused : MakesSteps [] mid new → HasCompleted status 1 old end
    back_refused made = record {
      irps = i ∷ [];
      count_is = refl;
      completed = completed_it made.completed;
      idle = λ was. record {
        held = ap (λ (r : PassRecord). held_list r.steps) e
            ∙ (ap (λ (is : List IrpLife). filter (λ j. not (same_irp i j)) is) (ap held_list made.steps ∙ holds_one was) ∙ alone i);
        owed = ap (λ (r : PassRecord). owed_list r.steps) e ∙ (ap owed_list made.steps ∙ (g.owing ∙ was.owed));
      };
    }

  module _ (back : InsertAnswer IrpLife IrpLife) (k : IrpLife) (f : FileId) (place : Place) (events : List Event) (u : QueueState) (is : IsPutBack i f place back events) (made : MakesSteps (put_back_steps (Ok back) u) mid new) where
    -- what the put-back returned is of i
    pub pending_completes : back ≡ Pending k → HasCompleted status 0 old new
    pending_completes e =
        let same = (subst (λ (b : InsertAnswer IrpLife IrpLife). IsPutBack i f place b events) e is).0 in
        back_pending u (subst (λ (b : InsertAnswer IrpLife IrpLife). MakesSteps (put_back_steps (Ok b) u) mid new) (e ∙ ap Pending same) made)

    pub cancelled_completes : back ≡ Cancelled k → (end : PassRecord) → end ≡ saw end.trace (with_completion k status (with_step (Done k) 0 new)) → HasCompleted status 1 old end
    cancelled_completes e end done =
        let same = (subst (λ (b : InsertAnswer IrpLife IrpLife). IsPutBack i f place b events) e is).0 in
        back_cancelled end (subst (λ (j : IrpLife). end ≡ saw end.trace (with_completion j status (with_step (Done j) 0 new))) same done) u
        (subst (λ (b : InsertAnswer IrpLife IrpLife). MakesSteps (put_back_steps (Ok b) u) mid new) (e ∙ ap Cancelled same) made)

  -- a refusal hands i back
  pub refused_completes : (k : IrpLife) → k ≡ i → MakesSteps [] mid new → (end : PassRecord) → end ≡ saw end.trace (with_completion k status (with_step (Done k) 0 new)) → HasCompleted status 1 old end
  refused_completes k same made end done = back_refused end (subst (λ (j : IrpLife). end ≡ saw end.trace (with_completion j status (with_step (Done j) 0 new))) same done) made

-- no turn was made yet
pub backs_none : (r : PassRecord) → PutsEachBack 0 0 r r
backs_none r = (refl, refl)

-- one turn more
pub backs_more : (turn made count : ℕ) (old mid new : PassRecord) → PutsEachBack turn made old mid → PutsOneBack count mid new → PutsEachBack (turn + 1) (made + count) old new
backs_more turn made count old mid new h g = subst (λ (n : ℕ). PutsEachBack n (made + count) old new) (sym (add-one turn)) (mid, made, count, refl, h, g)
