-- What stands at each number of a table.
use Rattle.std.proofs.Common.{◌≡◌, ℕ, zero, suc, ◌+◌, ◌<◌, ◌≤◌, Bool, true, false, cond, Some, None, take, count_by, ltb, ◌-◌, List, [], ◌∷◌, ◌++◌, length, get_or, set, replicate, refl, ap, sym, ◌∙◌, arith, length-append, add-one, add-zero, ⊎_elim}
use Rattle.std.specs.List.{position, position_or_len}
use Rattle.std.proofs.Math.ListN.{get_or-append}
use Rattle.std.proofs.Math.Seq.{get_or-append_seam, set-append_seam}
use Rattle.std.proofs.lemmas.Bool.{cases_lt, ltb-false}
use Rattle.std.proofs.lemmas.List.{set-append_left, take_all}
use Rattle.std.proofs.lemmas.List.Sums.{count_by_more_yes, count_by_more_no, fails_before_first}
use Rattle.csq_explain.specs.Tables.{table}

module _ {A : Type 0} where
  pub length-table : (f : ℕ → A) (n : ℕ) → length (table f n) ≡ n
  length-table f zero = refl
  length-table f (suc n) = length-append (table f n) (f n ∷ []) ∙ ap (λ k. k + 1) (length-table f n) ∙ add-one n

  -- the same at each number
  pub table-same : (f g : ℕ → A) (n : ℕ) → ((k : ℕ) → k < n → f k ≡ g k) → table f n ≡ table g n
  table-same f g zero h = refl
  table-same f g (suc n) h = ap (λ xs. xs ++ f n ∷ []) (table-same f g n (λ k lt. h k (omega arith))) ∙ ap (λ x. table g n ++ x ∷ []) (h n (omega arith))

  replicate-last : (n : ℕ) (x : A) → replicate (suc n) x ≡ replicate n x ++ x ∷ []
  replicate-last zero x = refl
  replicate-last (suc n) x = ap (λ xs. x ∷ xs) (replicate-last n x)

  -- the same thing at each number
  pub table-replicate : (f : ℕ → A) (x : A) (n : ℕ) → ((k : ℕ) → f k ≡ x) → table f n ≡ replicate n x
  table-replicate f x zero h = refl
  table-replicate f x (suc n) h = ap (λ xs. xs ++ f n ∷ []) (table-replicate f x n h) ∙ ap (λ y. replicate n x ++ y ∷ []) (h n) ∙ sym (replicate-last n x)

  pub get-table : (f : ℕ → A) (n k : ℕ) (d : A) → k < n → get_or (table f n) k d ≡ f k
  get-table f zero k d lt = absurd (omega (arith, lt))
  get-table f (suc n) k d lt = ⊎_elim (below (get-table f n k d)) last (cases_lt k n)
    where
      below : (k < n → get_or (table f n) k d ≡ f k) → k < n → get_or (table f (suc n)) k d ≡ f k
      below less h = get_or-append (table f n) (f n ∷ []) d k (omega (arith, h, length-table f n)) ∙ less h

      last : n ≤ k → get_or (table f (suc n)) k d ≡ f k
      last h =
          let at : k ≡ length (table f n) = omega (arith, h, lt, length-table f n) in
          let same : n ≡ k = omega (arith, h, lt) in
          ap (λ j. get_or (table f (suc n)) j d) at ∙ get_or-append_seam (table f n) (f n) [] d ∙ ap f same

  -- one thing is changed, and stands at its number in the other table
  pub set-table : (f g : ℕ → A) (n k : ℕ) (v : A) → k < n → v ≡ g k → ((j : ℕ) → (j ≡ k → ⊥) → f j ≡ g j) → set (table f n) k v ≡ table g n
  set-table f g zero k v lt at others = absurd (omega (arith, lt))
  set-table f g (suc n) k v lt at others = ⊎_elim (below (λ h. set-table f g n k v h at others)) last (cases_lt k n)
    where
      below : (k < n → set (table f n) k v ≡ table g n) → k < n → set (table f (suc n)) k v ≡ table g (suc n)
      below less h =
          set-append_left (table f n) (f n ∷ []) k v (omega (arith, h, length-table f n))
          ∙ ap (λ xs. xs ++ f n ∷ []) (less h)
          ∙ ap (λ x. table g n ++ x ∷ []) (others n (λ e. omega (arith, h, e)))

      last : n ≤ k → set (table f (suc n)) k v ≡ table g (suc n)
      last h =
          let place : k ≡ length (table f n) = omega (arith, h, lt, length-table f n) in
          let same : k ≡ n = omega (arith, h, lt) in
          ap (λ j. set (table f (suc n)) j v) place
          ∙ set-append_seam (table f n) (f n) [] v
          ∙ ap (λ xs. xs ++ v ∷ []) (table-same f g n (λ j l. others j (λ e. omega (arith, l, e, h, lt))))
          ∙ ap (λ x. table g n ++ x ∷ []) (at ∙ ap g same)

-- nothing passes where none is found
pub position-None : {A : Type 0} (p : A → Bool) (xs : List A) → position p xs ≡ None → (k : ℕ) (d : A) → k < length xs → p (get_or xs k d) ≡ false
position-None p xs e k d lt = go (ltb (position_or_len p xs) (length xs)) refl
  where
    go : (b : Bool) → ltb (position_or_len p xs) (length xs) ≡ b → p (get_or xs k d) ≡ false
    go true h = absurd (cc (sym e ∙ ap (λ b. cond b (Some (position_or_len p xs)) None) h))
    go false h = let le = ltb-false (position_or_len p xs) (length xs) h in fails_before_first p xs k d (omega (arith, le))

-- more items don't have fewer that pass
count-le : {A : Type 0} (f : A → Bool) (xs : List A) (p n : ℕ) (d : A) → count_by f (take p xs) ≤ count_by f (take (p + n) xs)
count-le f xs p zero d = omega (arith, ap (λ k. count_by f (take k xs)) (add-zero p))
count-le f xs p (suc n) d = ⊎_elim (inside (count-le f xs p n d)) (past (count-le f xs p n d)) (cases_lt (p + n) (length xs))
  where
    next : count_by f (take (p + suc n) xs) ≡ count_by f (take (p + n + 1) xs)
    next = let e : p + suc n ≡ p + n + 1 = omega arith in ap (λ k. count_by f (take k xs)) e

    inside : count_by f (take p xs) ≤ count_by f (take (p + n) xs) → p + n < length xs → count_by f (take p xs) ≤ count_by f (take (p + suc n) xs)
    inside less lt = go (f (get_or xs (p + n) d)) refl
      where
        go : (b : Bool) → f (get_or xs (p + n) d) ≡ b → count_by f (take p xs) ≤ count_by f (take (p + suc n) xs)
        go true is = omega (arith, less, next, count_by_more_yes f xs (p + n) d lt is)
        go false is = omega (arith, less, next, count_by_more_no f xs (p + n) d lt is)

    past : count_by f (take p xs) ≤ count_by f (take (p + n) xs) → length xs ≤ p + n → count_by f (take p xs) ≤ count_by f (take (p + suc n) xs)
    past less le = omega (arith, less, ap (λ ys. count_by f ys) (take_all (p + n) xs le), ap (λ ys. count_by f ys) (take_all (p + suc n) xs (omega (arith, le))))

-- one more passes among the first q than among the first p, where the one at p does
pub count-more : {A : Type 0} (f : A → Bool) (xs : List A) (p q : ℕ) (d : A) → p < length xs → p < q → f (get_or xs p d) ≡ true → count_by f (take p xs) < count_by f (take q xs)
count-more f xs p q d lt below is =
    let same : p + 1 + (q - (p + 1)) ≡ q = omega (arith, below) in
    omega (arith, count_by_more_yes f xs p d lt is, count-le f xs (p + 1) (q - (p + 1)) d, ap (λ k. count_by f (take k xs)) same)
