-- A pass's slots still record what it holds and owes, after each of its calls.
use Rattle.std.proofs.Common.{◌≡◌, ℕ, ◌<◌, ◌==◌, Bool, true, false, true≢false, List, Option, Some, None, Ok, IfSome, refl, sym, ap, ◌∙◌, subst, eqb-true, eq-eqb}
use Rattle.csq_checked.proofs.Imports.{slice_set, Size, number, IrpLife, Life, holds_in, owes_in, removed_in, held_list, owed_list, WordsState, QueueState, InsertAnswer, has_life, AreApart, OpenState, OpenPassState, IsQueueOn, IsPassOn, GivesOut, IsOfIrp, returns, Held, KnowsItsOwn, slot_at, with_held, held_after_back, IsCheckedPass}
use Rattle.irp_core.specs.declared.status.NtStatus.{NtStatus}
use Rattle.irp_core.specs.declared.step.Kind.TheVariants.{Out, Done}
use Rattle.csq_words.specs.Records.{saw, with_step, with_completion}
use Rattle.csq_queue.specs.declared.tokens.InsertAnswer.TheVariants.{Pending, Cancelled}
use Rattle.csq_queue.specs.Inserts.{given_by}
use Rattle.csq_queue.specs.Steps.{MakesSteps, put_back_steps}
use Rattle.csq_queue.specs.Owned.{Holds, HoldsRemoved, Owes}
use Rattle.csq_checked.proofs.Knowing.{holds_found, owes_found, not_held, not_owed}
use Rattle.csq_checked.proofs.Relisting.{others_removed}
use Rattle.csq_checked.proofs.Keeping.{kept_done, kept_out, kept_back, kept_given}

module _ (words : WordsState) (pass : OpenPassState) (held : List (Option Held)) (owed : List (Option Life)) (was : IsCheckedPass words pass held owed) where
  -- the call made no step but on what is known of the pass
  moved : (pass' : OpenPassState) → pass' ≡ record pass { pass = pass'.pass } → IsPassOn words pass'
  moved pass' place = subst (λ (p : OpenPassState). IsPassOn words p) (sym place) (record { table = was.on.table; irps = was.on.irps; passes = was.on.passes })

  module _ (i : IrpLife) (known : number i < words.size.irps) where
    pub slot_holds : (slot : Held) → slot_at held (number i) ≡ Some slot → i.life ≡ slot.life → Holds words.size.irps pass.pass i
    slot_holds slot e life = record {
      known = known;
      held = (holds_found words.size.irps pass.pass.steps held owed was.own i known slot e life).0;
    }

    pub slot_got : (slot : Held) → slot_at held (number i) ≡ Some slot → i.life ≡ slot.life → removed_in pass.pass.steps i ≡ slot.removed
    slot_got slot e life = (holds_found words.size.irps pass.pass.steps held owed was.own i known slot e life).1

    pub slot_owes : slot_at owed (number i) ≡ Some i.life → Owes pass.pass i
    slot_owes e = owes_found words.size.irps pass.pass.steps held owed was.own i known e

    -- what it holds and owes no two lives of, it holds and owes in the life that a slot records alone
    pub slot_not_held : (some : ℕ) → AreApart some (held_list pass.pass.steps) → ((slot : Held) → slot_at held (number i) ≡ Some slot → slot.life ≡ i.life → ⊥) → holds_in pass.pass.steps i ≡ false
    slot_not_held some apart none = not_held words.size.irps pass.pass.steps held owed was.own i known some apart none

    pub slot_not_owed : (some : ℕ) → AreApart some (owed_list pass.pass.steps) → (slot_at owed (number i) ≡ Some i.life → ⊥) → owes_in pass.pass.steps i ≡ false
    slot_not_owed some apart none = not_owed words.size.irps pass.pass.steps held owed was.own i known some apart none

    -- so a slot that is filled says by its life whether i is owed
    pub slot_owed_is : (some : ℕ) → AreApart some (owed_list pass.pass.steps) → (life : Life) → slot_at owed (number i) ≡ Some life → (life.0 == i.life.0) ≡ owes_in pass.pass.steps i
    slot_owed_is some apart life e = at (life.0 == i.life.0) refl
      where
        at : (b : Bool) → (life.0 == i.life.0) ≡ b → b ≡ owes_in pass.pass.steps i
        at true same = sym (slot_owes (e ∙ ap (λ (n : ℕ). Some (record { 0 = n })) (eqb-true life.0 i.life.0 same)))
        at false other = sym (slot_not_owed some apart (λ f. let promised : ◌≡◌ (Some life) (Some i.life) = sym e ∙ f in let is : life ≡ i.life = cc in true≢false (sym (eq-eqb life.0 i.life.0 (ap (λ (l : Life). l.0) is)) ∙ other)))

    -- it completed i
    pub completion_keeps : (status : NtStatus) (pass' : OpenPassState) (held' : List (Option Held)) → pass' ≡ record pass { pass = saw pass'.pass.trace (with_completion i status (with_step (Done i) 0 pass.pass)) }
        → has_life (held_list pass'.pass.steps) i.irp ≡ false → held' ≡ slice_set held (number i) None → IsCheckedPass words pass' held' owed
    completion_keeps status pass' held' step gone slots =
        let steps' = (with_step (Done i) 0 pass.pass).steps in
        let left = subst (λ (p : OpenPassState). has_life (held_list p.pass.steps) i.irp ≡ false) step gone in
        let kept = kept_done words.size.irps pass.pass.steps steps' held owed was.own i known (λ j ne. refl) refl refl left in
        subst (λ (p : OpenPassState). IsCheckedPass words p held' owed) (sym step) (record {
          on = record { table = was.on.table; irps = was.on.irps; passes = was.on.passes };
          own = subst (λ hs. KnowsItsOwn words.size.irps steps' hs owed) (sym slots) kept;
        })

    -- it took i out, which it owed
    pub routine_keeps : (pass' : OpenPassState) (held' : List (Option Held)) (owed' : List (Option Life)) → pass' ≡ record pass { pass = pass'.pass }
        → pass'.pass.steps ≡ (with_step (Out i) 0 pass.pass).steps → removed_in pass'.pass.steps i ≡ false → has_life (owed_list pass'.pass.steps) i.irp ≡ false
        → held' ≡ with_held false (Some i) held → owed' ≡ slice_set owed (number i) None → IsCheckedPass words pass' held' owed'
    routine_keeps pass' held' owed' place steps cancelled gone holds owes =
        let steps' = (with_step (Out i) 0 pass.pass).steps in
        let kept = kept_out words.size.irps pass.pass.steps steps' held owed was.own i known (λ j ne. refl) refl refl
        (subst (λ s. removed_in s i ≡ false) steps cancelled) (subst (λ s. has_life (owed_list s) i.irp ≡ false) steps gone) in
        record {
          on = moved pass' place;
          own = subst (λ s. KnowsItsOwn words.size.irps s held' owed') (sym steps) (subst (λ hs. KnowsItsOwn words.size.irps steps' hs owed') (sym holds) (subst (λ os. KnowsItsOwn words.size.irps steps' (with_held false (Some i) held) os) (sym owes) kept));
        }

    -- it put i back
    pub back_keeps : (answer : InsertAnswer IrpLife IrpLife) (u : QueueState) (pass' : OpenPassState) (held' : List (Option Held)) → MakesSteps (put_back_steps (Ok answer) u) pass.pass pass'.pass → IsOfIrp i (Ok answer) → HoldsRemoved words.size.irps pass.pass i
        → (given_by answer ≡ None → has_life (held_list pass'.pass.steps) i.irp ≡ false) → pass' ≡ record pass { pass = pass'.pass } → held' ≡ slice_set held (number i) (held_after_back answer) → IsCheckedPass words pass' held' owed
    back_keeps answer u pass' held' made of_i removed gone place slots = record { on = moved pass' place; own = subst (λ hs. KnowsItsOwn words.size.irps pass'.pass.steps hs owed) (sym slots) (own answer made of_i gone) }
      where
        own : (a : InsertAnswer IrpLife IrpLife) → MakesSteps (put_back_steps (Ok a) u) pass.pass pass'.pass → IsOfIrp i (Ok a) → (given_by a ≡ None → has_life (held_list pass'.pass.steps) i.irp ≡ false)
            → KnowsItsOwn words.size.irps pass'.pass.steps (slice_set held (number i) (held_after_back a)) owed
        own (Pending context) m of g =
            let r = returns words.size.irps i (Ok (Pending context)) u pass.pass pass'.pass m of removed in
            kept_done words.size.irps pass.pass.steps pass'.pass.steps held owed was.own i known (others_removed i (Pending context) u pass.pass pass'.pass m of) r.holding r.owing (g refl)
        own (Cancelled token) m of g =
            let r = returns words.size.irps i (Ok (Cancelled token)) u pass.pass pass'.pass m of removed in
            subst (λ (life : Life). KnowsItsOwn words.size.irps pass'.pass.steps (slice_set held (number i) (Some (record { removed = false; life = life }))) owed) (ap (λ (j : IrpLife). j.life) (sym of))
            (kept_back words.size.irps pass.pass.steps pass'.pass.steps held owed was.own i known (others_removed i (Cancelled token) u pass.pass pass'.pass m of) r.holding r.owing r.spent_is)

  -- a call gave this out, or nothing
  pub giving_keeps : (queue : OpenState) → IsQueueOn words queue → (given : Option IrpLife) (by_removal : Bool) (pass' : OpenPassState) (held' : List (Option Held)) → GivesOut queue.limits given by_removal pass.pass pass'.pass
      → pass' ≡ record pass { pass = pass'.pass } → held' ≡ with_held by_removal given held → IsCheckedPass words pass' held' owed
  giving_keeps queue on given by_removal pass' held' gives place holds =
      let inside = given_known given gives in
      let kept = kept_given words.size.irps queue.limits given by_removal pass.pass pass'.pass held owed gives inside was.own in
      record { on = moved pass' place; own = subst (λ hs. KnowsItsOwn words.size.irps pass'.pass.steps hs owed) (sym holds) kept }
    where
      given_known : (given : Option IrpLife) → GivesOut queue.limits given by_removal pass.pass pass'.pass → IfSome given (λ i. number i < words.size.irps)
      given_known None g = tt
      given_known (Some i) g = subst (λ n. number i < n) (ap (λ (s : Size). s.irps) on.size) (g.new_to_it i refl).known
