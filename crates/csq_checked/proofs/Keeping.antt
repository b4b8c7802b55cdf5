-- The slots of a pass record what it holds and owes, after each of its calls.
use Rattle.std.proofs.Common.{◌≡◌, ◌≢◌, ℕ, ◌<◌, ◌==◌, ◌||◌, ◌&&◌, cond, Bool, true, false, List, ◌∷◌, length, Option, Some, None, refl, sym, ap, ◌∙◌, subst, eq-eqb, ne_eqb}
use Rattle.std.proofs.Math.ListN.{length-set}
use Rattle.csq_checked.proofs.Imports.{false_from_ne_true, IfSome, slice_set, number, same_irp, IrpLife, Life, same_irp-refl, same_irp-eq, PassRecord, removed_in, held_list, owed_list, Limits, has_life, GivesOut, by_number, spent, Held, KnowsItsOwn, slot_at, held_at, owed_at, with_held}
use Rattle.irp_core.specs.declared.step.Made.{Made}
use Rattle.csq_checked.proofs.Knowing.{slot_set, slot_kept, held_none, owed_none, held_spent, owed_spent, held_same}

module _ (irps : ℕ) (steps steps' : List Made) (held : List (Option Held)) (owed : List (Option Life)) (was : KnowsItsOwn irps steps held owed) (i : IrpLife) (known : number i < irps) where
  in_held : number i < length held
  in_held = subst (λ (n : ℕ). number i < n) (sym was.held_for) known

  in_owed : number i < length owed
  in_owed = subst (λ (n : ℕ). number i < n) (sym was.owed_for) known

  -- of the other IRPs the same were got by removals
  module _ (same : (j : IrpLife) → number j ≢ number i → removed_in steps' j ≡ removed_in steps j) where
    others_same : (n : ℕ) → n ≢ number i → held_at steps' (held_list steps) n ≡ held_at steps (held_list steps) n
    others_same n ne = held_same steps steps' (held_list steps) n (λ j e. same j (λ f. ne (sym e ∙ f)))

    -- the pass completed i, or put it back
    pub kept_done : held_list steps' ≡ spent i (held_list steps) → owed_list steps' ≡ owed_list steps → has_life (held_list steps') i.irp ≡ false → KnowsItsOwn irps steps' (slice_set held (number i) None) owed
    kept_done now owing gone = record {
      held_for = length-set held (number i) None ∙ was.held_for;
      owed_for = was.owed_for;
      held_is = λ n k. by_number (slot_at (slice_set held (number i) None) n ≡ held_at steps' (held_list steps') n) n (number i)
          (λ e. slot_set held (number i) None in_held n e ∙ sym (ap (held_at steps' (held_list steps')) e ∙ held_none steps' (held_list steps') i gone))
          (λ ne. slot_kept held (number i) None in_held n ne ∙ (was.held_is n k ∙ sym (ap (λ is. held_at steps' is n) now ∙ (held_spent i n ne steps' (held_list steps) ∙ others_same n ne))));
      owed_is = λ n k. was.owed_is n k ∙ ap (λ is. owed_at is n) (sym owing);
    }

    -- it got i as cancelled beside these
    held_cancelled : (others : List IrpLife) → held_list steps' ≡ i ∷ others → ((n : ℕ) → n ≢ number i → held_at steps' others n ≡ held_at steps (held_list steps) n) → removed_in steps' i ≡ false
        → (n : ℕ) → n < irps → slot_at (with_held false (Some i) held) n ≡ held_at steps' (held_list steps') n
    held_cancelled others now alike not_removed n k = by_number (slot_at (with_held false (Some i) held) n ≡ held_at steps' (held_list steps') n) n (number i)
        (λ e. slot_set held (number i) (Some (record { removed = false; life = i.life })) in_held n e ∙ sym (ap (λ is. held_at steps' is n) now ∙ (ap (λ b. cond b (Some (record { removed = removed_in steps' i; life = i.life })) (held_at steps' others n)) (eq-eqb (number i) n (sym e)) ∙ ap (λ (r : Bool). Some (record { removed = r; life = i.life })) not_removed)))
        (λ ne. slot_kept held (number i) (Some (record { removed = false; life = i.life })) in_held n ne ∙ (was.held_is n k ∙ sym (ap (λ is. held_at steps' is n) now ∙ (ap (λ b. cond b (Some (record { removed = removed_in steps' i; life = i.life })) (held_at steps' others n)) (ne_eqb (number i) n (λ e. ne (sym e))) ∙ alike n ne))))

    -- it took i out, which it owed
    pub kept_out : held_list steps' ≡ i ∷ held_list steps → owed_list steps' ≡ spent i (owed_list steps) → removed_in steps' i ≡ false → has_life (owed_list steps') i.irp ≡ false
        → KnowsItsOwn irps steps' (with_held false (Some i) held) (slice_set owed (number i) None)
    kept_out now owing not_removed gone = record {
      held_for = length-set held (number i) (Some (record { removed = false; life = i.life })) ∙ was.held_for;
      owed_for = length-set owed (number i) None ∙ was.owed_for;
      held_is = held_cancelled (held_list steps) now others_same not_removed;
      owed_is = λ n k. by_number (slot_at (slice_set owed (number i) None) n ≡ owed_at (owed_list steps') n) n (number i)
          (λ e. slot_set owed (number i) None in_owed n e ∙ sym (ap (owed_at (owed_list steps')) e ∙ owed_none (owed_list steps') i gone))
          (λ ne. slot_kept owed (number i) None in_owed n ne ∙ (was.owed_is n k ∙ sym (ap (λ is. owed_at is n) owing ∙ owed_spent i n ne (owed_list steps))));
    }

    -- it put i back, and got it as cancelled
    pub kept_back : held_list steps' ≡ i ∷ spent i (held_list steps) → owed_list steps' ≡ owed_list steps → removed_in steps' i ≡ false → KnowsItsOwn irps steps' (with_held false (Some i) held) owed
    kept_back now owing not_removed = record {
      held_for = length-set held (number i) (Some (record { removed = false; life = i.life })) ∙ was.held_for;
      owed_for = was.owed_for;
      held_is = held_cancelled (spent i (held_list steps)) now (λ n ne. held_spent i n ne steps' (held_list steps) ∙ others_same n ne) not_removed;
      owed_is = λ n k. was.owed_is n k ∙ ap (λ is. owed_at is n) (sym owing);
    }

and_false : (b : Bool) → (b && false) ≡ false
and_false true = refl
and_false false = refl

-- a call gave this out, or nothing
pub kept_given : (irps : ℕ) (l : Limits) (given : Option IrpLife) (by_removal : Bool) (old new : PassRecord) (held : List (Option Held)) (owed : List (Option Life)) → GivesOut l given by_removal old new → IfSome given (λ i. number i < irps)
    → KnowsItsOwn irps old.steps held owed → KnowsItsOwn irps new.steps (with_held by_removal given held) owed
kept_given irps l None by_removal old new held owed g known was = record {
  held_for = was.held_for;
  owed_for = was.owed_for;
  held_is = λ n k. was.held_is n k ∙ sym (ap (λ is. held_at new.steps is n) g.holding ∙ held_same old.steps new.steps (held_list old.steps) n (λ j e. g.removed j ∙ ap (λ b. b || removed_in old.steps j) (and_false by_removal)));
  owed_is = λ n k. was.owed_is n k ∙ ap (λ is. owed_at is n) (sym g.owing);
}
kept_given irps l (Some i) by_removal old new held owed g known was = record {
  held_for = length-set held (number i) slot ∙ was.held_for;
  owed_for = was.owed_for;
  held_is = λ n k. by_number (slot_at (slice_set held (number i) slot) n ≡ held_at new.steps (held_list new.steps) n) n (number i)
      (λ e. slot_set held (number i) slot inside n e ∙ sym (ap (λ is. held_at new.steps is n) g.holding ∙ (first n (eq-eqb (number i) n (sym e)) ∙ ap (λ (r : Bool). Some (record { removed = r; life = i.life })) got)))
      (λ ne. slot_kept held (number i) slot inside n ne ∙ (was.held_is n k ∙ sym (ap (λ is. held_at new.steps is n) g.holding ∙ (later n (ne_eqb (number i) n (λ e. ne (sym e))) ∙ held_same old.steps new.steps (held_list old.steps) n (others n ne)))));
  owed_is = λ n k. was.owed_is n k ∙ ap (λ is. owed_at is n) (sym g.owing);
}
  where
    slot : Option Held
    slot = Some (record { removed = by_removal; life = i.life })

    inside : number i < length held
    inside = subst (λ (n : ℕ). number i < n) (sym was.held_for) known

    first : (n : ℕ) → (number i == n) ≡ true → held_at new.steps (i ∷ held_list old.steps) n ≡ Some (record { removed = removed_in new.steps i; life = i.life })
    first n e = ap (λ b. cond b (Some (record { removed = removed_in new.steps i; life = i.life })) (held_at new.steps (held_list old.steps) n)) e

    later : (n : ℕ) → (number i == n) ≡ false → held_at new.steps (i ∷ held_list old.steps) n ≡ held_at new.steps (held_list old.steps) n
    later n e = ap (λ b. cond b (Some (record { removed = removed_in new.steps i; life = i.life })) (held_at new.steps (held_list old.steps) n)) e

    ends : (b : Bool) → ((b && true) || false) ≡ b
    ends true = refl
    ends false = refl

    got : removed_in new.steps i ≡ by_removal
    got = g.removed i ∙ ((λ k. (by_removal && same_irp-refl i k) || (g.new_to_it i refl).not_removed k) ∙ ends by_removal)

    others : (n : ℕ) → n ≢ number i → (j : IrpLife) → number j ≡ n → removed_in new.steps j ≡ removed_in old.steps j
    others n ne j e = g.removed j ∙ ap (λ b. b || removed_in old.steps j) (ap (λ b. by_removal && b) (false_from_ne_true (same_irp i j) (λ s. ne (sym e ∙ ap number (sym (same_irp-eq i j s))))) ∙ and_false by_removal)
