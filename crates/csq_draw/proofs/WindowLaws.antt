-- The rows that a window shows.
use Rattle.std.proofs.Common.{◌≡◌, ℕ, ◌+◌, ◌<◌, ◌≤◌, Bool, true, false, map, List, [], ◌∷◌, ◌++◌, take, length, get_or, refl, ap, sym, ◌∙◌, arith}
use Rattle.csq_draw.specs.declared.view.Window.{Window}
use Rattle.csq_draw.specs.Windows.{cut, moved, next, places, shows}
use Rattle.csq_draw.proofs.Imports.{Row, take_all, take_more}

-- how many rows are shown after these, if n were before them
abbrev pub after : Window → ℕ → List Row → ℕ
after w n [] = n
after w n (row ∷ rows) = after w (next w row n) rows

module _ (w : Window) where
  places-last : (n : ℕ) (rows : List Row) (row : Row) → places w n (rows ++ row ∷ []) ≡ places w n rows ++ after w n rows ∷ []
  places-last n [] row = refl
  places-last n (r ∷ rows) row = ap (λ t. n ∷ t) (places-last (next w r n) rows row)

  after-last : (n : ℕ) (rows : List Row) (row : Row) → after w n (rows ++ row ∷ []) ≡ next w row (after w n rows)
  after-last n [] row = refl
  after-last n (r ∷ rows) row = after-last (next w r n) rows row

  -- one more of these rows was counted, and its place was added
  pub placed : (rows : List Row) (k : ℕ) (d : Row) (ps qs : List ℕ) (n m : ℕ) → k < length rows → qs ≡ ps ++ n ∷ [] → m ≡ next w (get_or rows k d) n → (ps ≡ places w 0 (take k rows)) × (n ≡ after w 0 (take k rows))
      → (qs ≡ places w 0 (take (k + 1) rows)) × (m ≡ after w 0 (take (k + 1) rows))
  placed rows k d ps qs n m lt added counted (was, at) = (
    added ∙ ap (λ x. x ++ n ∷ []) was ∙ ap (λ x. places w 0 (take k rows) ++ x ∷ []) at ∙ sym (ap (places w 0) (take_more rows k d lt) ∙ places-last 0 (take k rows) (get_or rows k d)),
    counted ∙ ap (next w (get_or rows k d)) at ∙ sym (ap (after w 0) (take_more rows k d lt) ∙ after-last 0 (take k rows) (get_or rows k d)),
  )

  pub placed_all : (rows : List Row) (k : ℕ) (ps : List ℕ) → length rows ≤ k → ps ≡ places w 0 (take k rows) → ps ≡ places w 0 rows
  placed_all rows k ps le was = was ∙ ap (places w 0) (take_all k rows le)

  module _ (ps : List ℕ) where
    cut-last : (n : ℕ) (rows : List Row) (row : Row) → cut w ps n (rows ++ row ∷ []) ≡ cut w ps n rows ++ cut w ps (n + length (cut w ps n rows)) (row ∷ [])
    cut-last n [] row = ap (λ k. cut w ps k (row ∷ [])) (omega arith)
    cut-last n (r ∷ rows) row = go (shows w r) refl (cut-last (n + 1) rows row) (cut-last n rows row)
      where
        Last : ℕ → Type 0
        Last k = cut w ps k (rows ++ row ∷ []) ≡ cut w ps k rows ++ cut w ps (k + length (cut w ps k rows)) (row ∷ [])

        go : (b : Bool) → shows w r ≡ b → Last (n + 1) → Last n → cut w ps n ((r ∷ rows) ++ row ∷ []) ≡ cut w ps n (r ∷ rows) ++ cut w ps (n + length (cut w ps n (r ∷ rows))) (row ∷ [])
        go true e shown hidden = rw e (ap (λ t. moved ps n r ∷ t) (shown ∙ ap (λ k. cut w ps (n + 1) rows ++ cut w ps k (row ∷ [])) (omega arith)))
        go false e shown hidden = rw e hidden

    -- one more of these rows was added, if it is shown
    pub cut_more : (rows : List Row) (k : ℕ) (d : Row) (xs ys : List Row) → k < length rows → ys ≡ xs ++ cut w ps (length xs) (get_or rows k d ∷ []) → xs ≡ cut w ps 0 (take k rows) → ys ≡ cut w ps 0 (take (k + 1) rows)
    cut_more rows k d xs ys lt is was =
        let so_far = cut w ps 0 (take k rows) in
        let place : length so_far ≡ 0 + length so_far = omega arith in
        is ∙ ap (λ x. x ++ cut w ps (length x) (get_or rows k d ∷ [])) was ∙ ap (λ n. so_far ++ cut w ps n (get_or rows k d ∷ [])) place
        ∙ sym (ap (cut w ps 0) (take_more rows k d lt) ∙ cut-last 0 (take k rows) (get_or rows k d))

    pub cut_all : (rows : List Row) (k : ℕ) (xs : List Row) → length rows ≤ k → xs ≡ cut w ps 0 (take k rows) → xs ≡ cut w ps 0 rows
    cut_all rows k xs le was = was ∙ ap (cut w ps 0) (take_all k rows le)

-- one more was made of these
module _ {A B : Type 0} (f : A → B) where
  map-last : (xs : List A) (x : A) → map f (xs ++ x ∷ []) ≡ map f xs ++ f x ∷ []
  map-last [] x = refl
  map-last (y ∷ ys) x = ap (λ t. f y ∷ t) (map-last ys x)

  pub map_more : (xs : List A) (k : ℕ) (d : A) (ys zs : List B) → k < length xs → zs ≡ ys ++ f (get_or xs k d) ∷ [] → ys ≡ map f (take k xs) → zs ≡ map f (take (k + 1) xs)
  map_more xs k d ys zs lt is was = is ∙ ap (λ t. t ++ f (get_or xs k d) ∷ []) was ∙ sym (ap (map f) (take_more xs k d lt) ∙ map-last (take k xs) (get_or xs k d))

  pub map_all : (xs : List A) (k : ℕ) (ys : List B) → length xs ≤ k → ys ≡ map f (take k xs) → ys ≡ map f xs
  map_all xs k ys le was = was ∙ ap (map f) (take_all k xs le)
