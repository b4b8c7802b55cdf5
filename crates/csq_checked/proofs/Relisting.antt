-- What a put-back leaves of what removals got.
use Rattle.std.proofs.Common.{◌≡◌, ◌≢◌, ◌∙◌, cond, Bool, true, false, [], ◌∷◌, Ok, refl, sym, ap}
use Rattle.csq_checked.proofs.Imports.{false_from_ne_true, number, same_irp, IrpLife, removed_in, same_irp-eq, PassRecord, QueueState, has_marked, InsertAnswer, IsOfIrp}
use Rattle.irp_core.specs.declared.step.Kind.TheVariants.{Rearm, Test, Disarm}
use Rattle.csq_queue.specs.declared.tokens.InsertAnswer.TheVariants.{Pending, Cancelled}
use Rattle.csq_queue.specs.Steps.{MakesSteps, put_back_steps}

-- a put-back of i leaves the others as they were got
pub others_removed : (i : IrpLife) (answer : InsertAnswer IrpLife IrpLife) (u : QueueState) (old new : PassRecord) → MakesSteps (put_back_steps (Ok answer) u) old new → IsOfIrp i (Ok answer) → (j : IrpLife) → number j ≢ number i → removed_in new.steps j ≡ removed_in old.steps j
others_removed i (Cancelled token) u old new m of_i j ne = ap (λ s. removed_in s j) m.steps ∙ rw (other token of_i) refl
  where
    other : (k : IrpLife) → k ≡ i → same_irp k j ≡ false
    other k e = false_from_ne_true (same_irp k j) (λ s. ne (ap number (sym (same_irp-eq k j s) ∙ e)))
others_removed i (Pending context) u old new m of_i j ne = at (has_marked u.entries context) m
  where
    other : same_irp context j ≡ false
    other = false_from_ne_true (same_irp context j) (λ s. ne (ap number (sym (same_irp-eq context j s) ∙ of_i)))

    at : (b : Bool) → MakesSteps (cond b ((Disarm context, 0) ∷ (Test context, 1) ∷ (Rearm context, 0) ∷ []) ((Test context, 0) ∷ (Rearm context, 0) ∷ [])) old new → removed_in new.steps j ≡ removed_in old.steps j
    at true made = ap (λ s. removed_in s j) made.steps ∙ rw other refl
    at false made = ap (λ s. removed_in s j) made.steps ∙ rw other refl
