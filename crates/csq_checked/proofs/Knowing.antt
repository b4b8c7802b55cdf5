-- What the slots of a pass record, from one record of the pass to the next.
use Rattle.std.proofs.Common.{◌≡◌, ◌≢◌, ℕ, ◌<◌, ◌==◌, ◌||◌, not, cond, Bool, true, false, true≢false, List, [], ◌∷◌, length, Option, Some, None, refl, sym, ap, ◌∙◌, eqb-true, eq-eqb, ne_eqb}
use Rattle.std.proofs.lemmas.List.{get_or-set_same, get_or-set_other}
use Rattle.csq_checked.proofs.Imports.{false_from_ne_true, or_parts, slice_set, number, same_id, same_irp, IrpLife, Life, same_irp-refl, same_irp-eq, named, holds_in, owes_in, removed_in, held_list, owed_list, has_irp, has_life, AreApart, spent, Held, KnowsItsOwn, slot_at, held_at, owed_at}
use Rattle.irp_core.specs.declared.step.Made.{Made}
use Rattle.csq_words.proofs.Held.{held_list-is, owed_list-is}

-- a slot that is set, and the others
module _ {T : Type 0} (slots : List (Option T)) (m : ℕ) (slot : Option T) (known : m < length slots) where
  pub slot_set : (n : ℕ) → n ≡ m → slot_at (slice_set slots m slot) n ≡ slot
  slot_set n e = ap (slot_at (slice_set slots m slot)) e ∙ get_or-set_same slots m slot None known

  pub slot_kept : (n : ℕ) → n ≢ m → slot_at (slice_set slots m slot) n ≡ slot_at slots n
  slot_kept n ne = get_or-set_other slots m n slot None ne

-- of what isn't among these, nothing is recorded
pub held_none : (steps : List Made) (is : List IrpLife) (i : IrpLife) → has_life is i.irp ≡ false → held_at steps is (number i) ≡ None
unfolding same_id
held_none steps [] i h = refl
held_none steps (j ∷ is) i h = at (number j == number i) refl h (held_none steps is i)
  where
    at : (b : Bool) → (number j == number i) ≡ b → (b || has_life is i.irp) ≡ false → (has_life is i.irp ≡ false → held_at steps is (number i) ≡ None) → cond b (Some (record { removed = removed_in steps j; life = j.life })) (held_at steps is (number i)) ≡ None
    at true e h rest = absurd (true≢false h)
    at false e h rest = rest h

pub owed_none : (is : List IrpLife) (i : IrpLife) → has_life is i.irp ≡ false → owed_at is (number i) ≡ None
unfolding same_id
owed_none [] i h = refl
owed_none (j ∷ is) i h = at (number j == number i) refl h (owed_none is i)
  where
    at : (b : Bool) → (number j == number i) ≡ b → (b || has_life is i.irp) ≡ false → (has_life is i.irp ≡ false → owed_at is (number i) ≡ None) → cond b (Some j.life) (owed_at is (number i)) ≡ None
    at true e h rest = absurd (true≢false h)
    at false e h rest = rest h

-- what is spent leaves what is recorded of the others
module _ (i : IrpLife) (n : ℕ) (ne : n ≢ number i) where
  other : (j : IrpLife) → same_irp i j ≡ true → (number j == n) ≡ false
  other j e = ne_eqb (number j) n (λ s. ne (sym s ∙ ap number (sym (same_irp-eq i j e))))

  pub held_spent : (steps : List Made) (is : List IrpLife) → held_at steps (spent i is) n ≡ held_at steps is n
  held_spent steps [] = refl
  held_spent steps (j ∷ is) = at (same_irp i j) refl (held_spent steps is)
    where
      here : Option Held
      here = Some (record { removed = removed_in steps j; life = j.life })

      at : (b : Bool) → same_irp i j ≡ b → held_at steps (spent i is) n ≡ held_at steps is n → held_at steps (cond (not b) (j ∷ spent i is) (spent i is)) n ≡ held_at steps (j ∷ is) n
      at false e rest = ap (cond (number j == n) (Some (record { removed = removed_in steps j; life = j.life }))) rest
      at true e rest = rest ∙ sym (ap (λ b. cond b (Some (record { removed = removed_in steps j; life = j.life })) (held_at steps is n)) (other j e))

  pub owed_spent : (is : List IrpLife) → owed_at (spent i is) n ≡ owed_at is n
  owed_spent [] = refl
  owed_spent (j ∷ is) = at (same_irp i j) refl (owed_spent is)
    where
      at : (b : Bool) → same_irp i j ≡ b → owed_at (spent i is) n ≡ owed_at is n → owed_at (cond (not b) (j ∷ spent i is) (spent i is)) n ≡ owed_at (j ∷ is) n
      at false e rest = ap (cond (number j == n) (Some j.life)) rest
      at true e rest = rest ∙ sym (ap (λ b. cond b (Some j.life) (owed_at is n)) (other j e))

-- what is recorded rests on which of these a removal got alone
pub held_same : (steps steps' : List Made) (is : List IrpLife) (n : ℕ) → ((j : IrpLife) → number j ≡ n → removed_in steps' j ≡ removed_in steps j) → held_at steps' is n ≡ held_at steps is n
held_same steps steps' [] n same = refl
held_same steps steps' (j ∷ is) n same = at (number j == n) refl (held_same steps steps' is n same)
  where
    at : (b : Bool) → (number j == n) ≡ b → held_at steps' is n ≡ held_at steps is n
        → cond b (Some (record { removed = removed_in steps' j; life = j.life })) (held_at steps' is n) ≡ cond b (Some (record { removed = removed_in steps j; life = j.life })) (held_at steps is n)
    at true e rest = ap (λ (r : Bool). Some (record { removed = r; life = j.life })) (same j (eqb-true (number j) n e))
    at false e rest = rest

or_second : (a b : Bool) → b ≡ true → (a || b) ≡ true
or_second true b e = refl
or_second false b e = e

-- an IRP that is recorded is among these, and was got so
pub held_found : (steps : List Made) (is : List IrpLife) (i : IrpLife) (held : Held) → held_at steps is (number i) ≡ Some held → i.life ≡ held.life → (has_irp is i ≡ true) × (removed_in steps i ≡ held.removed)
held_found steps [] i held e l = absurd (cc)
held_found steps (j ∷ is) i held e l = at (number j == number i) refl e (held_found steps is i held)
  where
    at : (b : Bool) → (number j == number i) ≡ b → cond b (Some (record { removed = removed_in steps j; life = j.life })) (held_at steps is (number i)) ≡ Some held
        → (held_at steps is (number i) ≡ Some held → i.life ≡ held.life → (has_irp is i ≡ true) × (removed_in steps i ≡ held.removed)) → ((same_irp j i || has_irp is i) ≡ true) × (removed_in steps i ≡ held.removed)
    at true same f rest =
        let got : ◌≡◌ {A = Held} (record { removed = removed_in steps j; life = j.life }) held = cc in
        let life_is : j.life ≡ i.life = ap (λ (h : Held). h.life) got ∙ sym l in
        let is_it : j ≡ i = named j i (eqb-true (number j) (number i) same) (ap (λ (x : Life). x.0) life_is) in
        (ap (λ (b : Bool). b || has_irp is i) (ap (λ (x : IrpLife). same_irp x i) is_it ∙ same_irp-refl i), ap (removed_in steps) (sym is_it) ∙ ap (λ (h : Held). h.removed) got)
    at false unlike f rest = let r = rest f l in (or_second (same_irp j i) (has_irp is i) r.0, r.1)

pub owed_found : (is : List IrpLife) (i : IrpLife) → owed_at is (number i) ≡ Some i.life → has_irp is i ≡ true
owed_found [] i e = absurd (cc)
owed_found (j ∷ is) i e = at (number j == number i) refl e (owed_found is i)
  where
    at : (b : Bool) → (number j == number i) ≡ b → cond b (Some j.life) (owed_at is (number i)) ≡ Some i.life → (owed_at is (number i) ≡ Some i.life → has_irp is i ≡ true) → (same_irp j i || has_irp is i) ≡ true
    at true same f rest =
        let life_is : j.life ≡ i.life = cc in
        let is_it : j ≡ i = named j i (eqb-true (number j) (number i) same) (ap (λ (x : Life). x.0) life_is) in
        ap (λ (b : Bool). b || has_irp is i) (ap (λ (x : IrpLife). same_irp x i) is_it ∙ same_irp-refl i)
    at false unlike f rest = or_second (same_irp j i) (has_irp is i) (rest f)

-- names that differ in the number, or in the life, differ
unlike_number : (j i : IrpLife) → (number j == number i) ≡ false → same_irp j i ≡ false
unlike_number j i e = false_from_ne_true (same_irp j i) (λ t. true≢false (sym (eq-eqb (number j) (number i) (ap number (same_irp-eq j i t))) ∙ e))

unlike_life : (j i : IrpLife) → (j.life ≡ i.life → ⊥) → same_irp j i ≡ false
unlike_life j i ne = false_from_ne_true (same_irp j i) (λ t. ne (ap (λ (x : IrpLife). x.life) (same_irp-eq j i t)))

or_neither : (a b : Bool) → a ≡ false → b ≡ false → (a || b) ≡ false
or_neither a b e f = ap (λ c. c || b) e ∙ f

-- of an IRP that has no life among these, none is
no_life : (is : List IrpLife) (j i : IrpLife) → number j ≡ number i → has_life is j.irp ≡ false → has_irp is i ≡ false
unfolding same_id
no_life [] j i e h = refl
no_life (k ∷ is) j i e h =
    let parts = or_parts (number k == number j) (has_life is j.irp) h in
    or_neither (same_irp k i) (has_irp is i) (unlike_number k i (ap (λ n. number k == n) (sym e) ∙ parts.0)) (no_life is j i e parts.1)

-- what isn't recorded in its life isn't among these, where no two are lives of one IRP
pub held_absent : (irps : ℕ) (steps : List Made) (is : List IrpLife) (i : IrpLife) → AreApart irps is → ((held : Held) → held_at steps is (number i) ≡ Some held → held.life ≡ i.life → ⊥) → has_irp is i ≡ false
held_absent irps steps [] i apart none = refl
held_absent irps steps (j ∷ is) i apart none = at (number j == number i) refl none (held_absent irps steps is i apart.2)
  where
    here : Held
    here = record { removed = removed_in steps j; life = j.life }

    at : (b : Bool) → (number j == number i) ≡ b → ((held : Held) → cond b (Some here) (held_at steps is (number i)) ≡ Some held → held.life ≡ i.life → ⊥)
        → (((held : Held) → held_at steps is (number i) ≡ Some held → held.life ≡ i.life → ⊥) → has_irp is i ≡ false) → (same_irp j i || has_irp is i) ≡ false
    at true same f rest = or_neither (same_irp j i) (has_irp is i) (unlike_life j i (f here refl)) (no_life is j i (eqb-true (number j) (number i) same) apart.1)
    at false unlike f rest = or_neither (same_irp j i) (has_irp is i) (unlike_number j i unlike) (rest f)

pub owed_absent : (irps : ℕ) (is : List IrpLife) (i : IrpLife) → AreApart irps is → (owed_at is (number i) ≡ Some i.life → ⊥) → has_irp is i ≡ false
owed_absent irps [] i apart none = refl
owed_absent irps (j ∷ is) i apart none = at (number j == number i) refl none (owed_absent irps is i apart.2)
  where
    at : (b : Bool) → (number j == number i) ≡ b → (cond b (Some j.life) (owed_at is (number i)) ≡ Some i.life → ⊥)
        → ((owed_at is (number i) ≡ Some i.life → ⊥) → has_irp is i ≡ false) → (same_irp j i || has_irp is i) ≡ false
    at true same f rest = or_neither (same_irp j i) (has_irp is i) (unlike_life j i (λ (e : j.life ≡ i.life). f (ap (λ (l : Life). Some l) e))) (no_life is j i (eqb-true (number j) (number i) same) apart.1)
    at false unlike f rest = or_neither (same_irp j i) (has_irp is i) (unlike_number j i unlike) (rest f)

-- what a slot records is so, and what it doesn't record isn't, where no two are lives of one IRP
module _ (irps : ℕ) (steps : List Made) (held : List (Option Held)) (owed : List (Option Life)) (own : KnowsItsOwn irps steps held owed) (i : IrpLife) (known : number i < irps) where
  pub holds_found : (slot : Held) → slot_at held (number i) ≡ Some slot → i.life ≡ slot.life → (holds_in steps i ≡ true) × (removed_in steps i ≡ slot.removed)
  holds_found slot e life =
      let found = held_found steps (held_list steps) i slot (sym (own.held_is (number i) known) ∙ e) life in
      (sym (held_list-is steps i) ∙ found.0, found.1)

  pub owes_found : slot_at owed (number i) ≡ Some i.life → owes_in steps i ≡ true
  owes_found e = sym (owed_list-is steps i) ∙ owed_found (owed_list steps) i (sym (own.owed_is (number i) known) ∙ e)

  pub not_held : (some : ℕ) → AreApart some (held_list steps) → ((slot : Held) → slot_at held (number i) ≡ Some slot → slot.life ≡ i.life → ⊥) → holds_in steps i ≡ false
  not_held some apart none = sym (held_list-is steps i) ∙ held_absent some steps (held_list steps) i apart (λ slot e. none slot (own.held_is (number i) known ∙ e))

  pub not_owed : (some : ℕ) → AreApart some (owed_list steps) → (slot_at owed (number i) ≡ Some i.life → ⊥) → owes_in steps i ≡ false
  not_owed some apart none = sym (owed_list-is steps i) ∙ owed_absent some (owed_list steps) i apart (λ e. none (own.owed_is (number i) known ∙ e))
