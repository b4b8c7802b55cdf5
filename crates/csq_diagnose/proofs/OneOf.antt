-- Words that are one of a list, and words that are read.
use Rattle.std.proofs.Common.{◌≡◌, Bool, true, false, ℕ, List, [], ◌∷◌, map, inl, inr, refl, sym, Option, Some, None}
use Rattle.std.proofs.lemmas.Slice.Eq.{bytes_eq-Decides}
use Rattle.csq_diagnose.proofs.Imports.{◌↔◌, ◌⊎◌, ◌||◌, IsTrue, is_some, MatchOption, Bor, list_any, bytes_eq, IsOneOf}

-- the words that the references show
abbrev pub shown : List (Bor (List ℕ)) → List (List ℕ)
shown words = map (λ (one : Bor (List ℕ)). one.now) words

either : (a b : Bool) → (a || b) ≡ true → (a ≡ true) ⊎ (b ≡ true)
either true b t = inl refl
either false b t = inr t

on_right : (a b : Bool) → b ≡ true → (a || b) ≡ true
on_right true b e = refl
on_right false b e = e

one_more : (one w : List ℕ) (rest : Bool) (P : Type 0) → (rest ≡ true → P) → (P → rest ≡ true) → IsTrue (bytes_eq one w || rest) ↔ ((w ≡ one) ⊎ P)
one_more one w rest P to from = (λ t. go (either (bytes_eq one w) rest t), back)
  where
    go : (bytes_eq one w ≡ true) ⊎ (rest ≡ true) → (w ≡ one) ⊎ P
    go (inl e) = inl (sym ((bytes_eq-Decides one w).0 e))
    go (inr e) = inr (to e)

    back : (w ≡ one) ⊎ P → (bytes_eq one w || rest) ≡ true
    back (inl e) = rw ((bytes_eq-Decides one w).1 (sym e)) refl
    back (inr p) = on_right (bytes_eq one w) rest (from p)

-- the test for one of these words
pub one_of : (words : List (Bor (List ℕ))) (w : List ℕ) → IsTrue (list_any (λ (one : Bor (List ℕ)). bytes_eq one.now w) words) ↔ IsOneOf (shown words) w
one_of [] w = (λ t. absurd cc, λ o. absurd o)
one_of (x ∷ xs) w = let h = one_of xs w in one_more x.now w _ _ h.0 h.1

-- what is read, where something is
pub is_read : {T : Type 0} (o : Option T) (P : T → Type 0) → MatchOption o ((t : T) → ¬ P t) P → IsTrue (is_some o) ↔ ((t : T) × P t)
is_read (Some t) P h = (λ _. (t, h), λ _. refl)
is_read None P h = (λ e. absurd cc, λ p. absurd (h p.0 p.1))
