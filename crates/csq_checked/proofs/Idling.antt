-- The slots of idle passes, as one is taken or put, and that all passes are back once the idle ones gave themselves back.
use Rattle.std.proofs.Common.{◌≡◌, ℕ, zero, suc, ◌<◌, ◌≤◌, ◌||◌, Bool, true, false, true≢false, List, [], ◌∷◌, ◌-◌, length, Option, Some, None, refl, sym, ap, ◌∙◌, subst, arith}
use Rattle.std.specs.Option.{is_none}
use Rattle.std.proofs.Math.ListN.{length-set}
use Rattle.std.proofs.lemmas.List.{set-get_or}
use Rattle.std.proofs.lemmas.Option.{none-some, same_Some}
use Rattle.csq_checked.proofs.Imports.{slice_set, same_pass, same_pass-is, WordsState, OpenState, OpenPassState, IsQueueOn, IsPassOn, Size, FirstAreBack, HoldsNothing, by_number, tally_none, IdleSlots, IsIdle, AreIdle, count_out, with_one_back, with_idle_back, CheckedPassState, IsPassIn, open_state, slot_at}
use Rattle.csq_words.specs.declared.views.QueueRecord.{QueueRecord}
use Rattle.csq_queue.specs.Named.{pass_numbered, is_back}
use Rattle.csq_checked.proofs.Knowing.{slot_set, slot_kept}

module _ (words : WordsState) (idle : IdleSlots) (was : AreIdle words idle) (n : ℕ) (known : n < length idle) where
  -- a pass is taken out of its slot
  pub idle_without : AreIdle words (slice_set idle n None)
  idle_without = record {
    one_each = length-set idle n None ∙ was.one_each;
    each = λ k p e. by_number (IsIdle words k p) k n
        (λ same. absurd (none-some p (sym (slot_set idle n None known k same) ∙ e)))
        (λ other. was.each k p (sym (slot_kept idle n None known k other) ∙ e));
  }

  -- a pass is put into its slot
  pub idle_with : (s : OpenPassState) → IsIdle words n s → AreIdle words (slice_set idle n (Some s))
  idle_with s is = record {
    one_each = length-set idle n (Some s) ∙ was.one_each;
    each = λ k p e. by_number (IsIdle words k p) k n
        (λ same. subst (λ (m : ℕ). IsIdle words m p) (sym same) (subst (IsIdle words n) (same_Some s p (sym (slot_set idle n (Some s) known k same) ∙ e)) is))
        (λ other. was.each k p (sym (slot_kept idle n (Some s) known k other) ∙ e));
  }

-- a pass that isn't out is idle
some_there : (slot : Option OpenPassState) → is_none slot ≡ false → (P : Type 0) → ((p : OpenPassState) → slot ≡ Some p → P) → P
some_there None e P there = absurd (true≢false e)
some_there (Some p) e P there = there p refl

or_right : (a b : Bool) → b ≡ true → (a || b) ≡ true
or_right true b e = refl
or_right false b e = e

-- the passes 1 to n are back once the idle ones among them gave themselves back, where none of them is out
pub idle_are_back : (words : WordsState) (idle : IdleSlots) → AreIdle words idle → (taken n : ℕ) → n ≤ taken → count_out idle taken ≡ 0 → (q : QueueRecord) → FirstAreBack n (with_idle_back idle n q).back
idle_are_back words idle are taken zero few none q p low high = absurd (below p low high)
  where
    below : (p : ℕ) → 1 ≤ p → p ≤ 0 → ⊥
    below p low high = omega arith
idle_are_back words idle are taken (suc n) few none q p low high =
    some_there (slot_at idle n) (tally_none (λ k. is_none (slot_at idle k)) taken n none few) (is_back (pass_numbered p) (with_idle_back idle (suc n) q).back ≡ true) λ s e.
    let before = with_idle_back idle n q in
    let now : (with_idle_back idle (suc n) q).back ≡ s.pass ∷ before.back = ap (λ (slot : Option OpenPassState). (with_one_back slot before).back) e in
    let is : s.pass.pass ≡ pass_numbered (suc n) = (are.each n s e).numbered in
    ap (is_back (pass_numbered p)) now ∙ by_number (is_back (pass_numbered p) (s.pass ∷ before.back) ≡ true) p (suc n)
    (λ same. ap (λ b. b || is_back (pass_numbered p) before.back) (same_pass-is s.pass.pass (pass_numbered p) (is ∙ ap pass_numbered (sym same))))
    (λ other. or_right (same_pass s.pass.pass (pass_numbered p)) (is_back (pass_numbered p) before.back) (idle_are_back words idle are taken n (omega arith) none q p low (omega arith)))

-- a pass of the queue that holds and owes nothing may be put into the slot of its number
pub in_slot : (words : WordsState) (queue : OpenState) (idle : IdleSlots) (p : CheckedPassState) (number : ℕ) → IsQueueOn words queue → AreIdle words idle → IsPassIn queue p → number ≡ p.pass.pass.0 → 1 ≤ number → number ≤ p.words.size.passes → HoldsNothing p.pass
    → (number - 1 < length idle) × IsIdle words (number - 1) (open_state p)
in_slot words queue idle p number on are its is low high nothing =
    let size : p.words.size ≡ words.size = sym its.size ∙ on.size in
    let passes : p.words.size.passes ≡ words.size.passes = ap (λ (s : Size). s.passes) size in
    let slots = are.one_each in
    let next : p.pass.pass.0 ≡ suc (number - 1) = omega arith in (
      omega arith,
      record {
        on = record { table = sym its.table ∙ on.table; irps = ap (λ (s : Size). s.irps) size; passes = passes };
        numbered = λ k. pass_numbered (next k);
        nothing = nothing;
      },
    )

-- a pass of the queue's words is of any that are the queue's
pub on_any : (words mine : WordsState) (queue : OpenState) (p : OpenPassState) → IsQueueOn words queue → IsQueueOn mine queue → IsPassOn words p → IsPassOn mine p
on_any words mine queue p on its of =
    let size : words.size ≡ mine.size = sym on.size ∙ its.size in
    record { table = of.table ∙ (sym on.table ∙ its.table); irps = of.irps ∙ ap (λ (s : Size). s.irps) size; passes = of.passes ∙ ap (λ (s : Size). s.passes) size }

-- a slot that is set twice
set_twice : {T : Type 0} (xs : List T) (n : ℕ) (x y : T) → slice_set (slice_set xs n x) n y ≡ slice_set xs n y
set_twice [] n x y = refl
set_twice (z ∷ xs) zero x y = refl
set_twice (z ∷ xs) (suc n) x y = ap (λ rest. z ∷ rest) (set_twice xs n x y)

-- what was taken out of a slot is put back
pub put_same : {T : Type 0} (slots : List (Option T)) (n : ℕ) (x : T) → Some x ≡ slot_at slots n → slice_set (slice_set slots n None) n (Some x) ≡ slots
put_same slots n x there = set_twice slots n None (Some x) ∙ (ap (slice_set slots n) there ∙ set-get_or slots n None)

-- there was nothing in it
pub put_none : {T : Type 0} (slots : List (Option T)) (n : ℕ) → None ≡ slot_at slots n → slice_set slots n None ≡ slots
put_none slots n there = ap (slice_set slots n) there ∙ set-get_or slots n None
