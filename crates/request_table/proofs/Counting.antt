-- How many elements of a list pass a test, after each change.
use Rattle.std.proofs.Common.{◌≡◌, ◌<◌, ◌≤◌, ◌+◌, ℕ, zero, suc, Bool, true, false, cond, List, [], ◌∷◌, ◌++◌, filter, length, get_or, set, replicate, refl, ap, arith}
use Rattle.std.proofs.lemmas.List.{length-append}
use Rattle.std.proofs.lemmas.List.Elements.{filter-append}
use Rattle.irp_core.proofs.ByTest.{by_value}
use Rattle.irp_core.specs.Words.{bit}

module _ {X : Type 0} (p : X → Bool) where
  pub count-cons : (x : X) (xs : List X) → length (filter p (x ∷ xs)) ≡ length (filter p xs) + cond (p x) 1 0
  count-cons x xs = by_value (λ b. length (cond b (x ∷ filter p xs) (filter p xs)) ≡ length (filter p xs) + cond b 1 0) (p x) (λ m. omega arith) (λ m. omega arith)

  pub count-push : (xs : List X) (y : X) → length (filter p (xs ++ y ∷ [])) ≡ length (filter p xs) + cond (p y) 1 0
  count-push xs y = omega (arith, ap length (filter-append p xs (y ∷ [])), length-append (filter p xs) (filter p (y ∷ [])), count-cons y [])

  -- a write takes one element out and puts one in
  pub count-set : (xs : List X) (i : ℕ) (d y : X) → i < length xs → length (filter p (set xs i y)) + cond (p (get_or xs i d)) 1 0 ≡ length (filter p xs) + cond (p y) 1 0
  count-set [] i d y within = absurd (omega arith)
  count-set (x ∷ xs) zero d y within = omega (arith, count-cons x xs, count-cons y xs)
  count-set (x ∷ xs) (suc i) d y within = let rest = count-set xs i d y (omega arith) in omega (arith, count-cons x xs, count-cons x (set xs i y), rest)

  pub count-le : (xs : List X) → length (filter p xs) ≤ length xs
  count-le [] = omega arith
  count-le (x ∷ xs) = let rest = count-le xs in by_value (λ b. length (filter p (x ∷ xs)) ≡ length (filter p xs) + cond b 1 0 → length (filter p (x ∷ xs)) ≤ suc (length xs)) (p x) (λ m e. omega arith) (λ m e. omega arith) (count-cons x xs)

  -- of so many copies none passes, or each
  pub count-copies : (n : ℕ) (x : X) → p x ≡ false → length (filter p (replicate n x)) ≡ 0
  count-copies zero x none = refl
  count-copies (suc n) x none = omega (arith, count-cons x (replicate n x), count-copies n x none, ap (λ b. bit b) none)

  pub count-all : (n : ℕ) (x : X) → p x ≡ true → length (filter p (replicate n x)) ≡ n
  count-all zero x all = refl
  count-all (suc n) x all = omega (arith, count-cons x (replicate n x), count-all n x all, ap (λ b. bit b) all)

-- a copy, or what stands for none
pub copy-at : {X : Type 0} (n i : ℕ) (x : X) → get_or (replicate n x) i x ≡ x
copy-at zero i x = refl
copy-at (suc n) zero x = refl
copy-at (suc n) (suc i) x = copy-at n i x
