-- What is picked out of the elements of a picture.
use Rattle.std.proofs.Common.{◌≡◌, ℕ, ◌+◌, List, [], ◌∷◌, ◌++◌, length, refl, ap, sym, ◌∙◌, arith, append_assoc, append-nil}
use Rattle.csq_replay.specs.declared.schedule.closing.IrpLine.{IrpLine}
use Rattle.csq_draw.proofs.Imports.{IrpNow, closed_elements, closing_elements, each}
use Rattle.csq_draw.specs.declared.element.Element.{Element, TheVariants.{Below}}
use Rattle.csq_draw.specs.declared.ending.{Below.{Below as BelowRows, TheVariants.{AtRest}}, RestState.{RestState}}
use Rattle.csq_draw.specs.declared.lives.PastLife.{PastLife}
use Rattle.csq_draw.specs.Pictures.{past_elements}
use Rattle.csq_draw.specs.Laws.{picked}

module _ {A : Type 0} (pick : Element → List A) where
  pub picked-append : (xs ys : List Element) → picked pick (xs ++ ys) ≡ picked pick xs ++ picked pick ys
  picked-append [] ys = refl
  picked-append (x ∷ xs) ys = ap (λ t. pick x ++ t) (picked-append xs ys) ∙ sym (append_assoc (pick x) (picked pick xs) (picked pick ys))

  pub then_none : (xs ys : List Element) (zs : List A) → picked pick xs ≡ zs → picked pick ys ≡ [] → picked pick (xs ++ ys) ≡ zs
  then_none xs ys zs a b = picked-append xs ys ∙ ap (λ t. picked pick xs ++ t) b ∙ append-nil (picked pick xs) ∙ a

  pub none_then : (xs ys : List Element) (zs : List A) → picked pick xs ≡ [] → picked pick ys ≡ zs → picked pick (xs ++ ys) ≡ zs
  none_then xs ys zs a b = picked-append xs ys ∙ ap (λ t. t ++ picked pick ys) a ∙ b

  module _ {B : Type 0} (f : ℕ → B → List Element) where
    -- nothing, where nothing is of any
    pub none_picked : ((n : ℕ) (x : B) → picked pick (f n x) ≡ []) → (n : ℕ) (xs : List B) → picked pick (each f n xs) ≡ []
    none_picked none n [] = refl
    none_picked none n (x ∷ xs) = picked-append (f n x) (each f (n + 1) xs) ∙ ap (λ t. t ++ picked pick (each f (n + 1) xs)) (none n x) ∙ none_picked none (n + 1) xs

    -- and one more
    pub picked_last : (n : ℕ) (xs : List B) (x : B) → picked pick (each f n (xs ++ x ∷ [])) ≡ picked pick (each f n xs) ++ picked pick (f (n + length xs) x)
    picked_last n [] x =
        let one : n ≡ n + 0 = omega arith in
        ap (λ es. picked pick es) (append-nil (f n x)) ∙ ap (λ k. picked pick (f k x)) one
    picked_last n (y ∷ xs) x =
        let next : n + 1 + length xs ≡ n + length (y ∷ xs) = omega arith in
        picked-append (f n y) (each f (n + 1) (xs ++ x ∷ []))
        ∙ ap (λ t. picked pick (f n y) ++ t) (picked_last (n + 1) xs x ∙ ap (λ k. picked pick (each f (n + 1) xs) ++ picked pick (f k x)) next)
        ∙ sym (append_assoc (picked pick (f n y)) (picked pick (each f (n + 1) xs)) (picked pick (f (n + length (y ∷ xs)) x)))
        ∙ ap (λ t. t ++ picked pick (f (n + length (y ∷ xs)) x)) (sym (picked-append (f n y) (each f (n + 1) xs)))

  -- nothing of what is reported in the end, where nothing is of what stands below the rows
  module _ (none : (rows : ℕ) (b : BelowRows) → pick (Below rows b) ≡ []) where
    pub none_closed : (irps : List IrpNow) (lives : List PastLife) (reported : List IrpLine) (rest : RestState) (rows : ℕ) → picked pick (closed_elements irps lives reported rest rows) ≡ []
    none_closed irps lives reported rest rows =
        let alone : (b : BelowRows) → picked pick (Below rows b ∷ []) ≡ [] = λ b. ap (λ t. t ++ []) (none rows b) in
        let closing = closing_elements irps rows (length lives) in
        let last = Below rows (AtRest (length reported + length lives) rest) in
        none_then (each (past_elements rows) 0 lives) (each closing 0 reported ++ last ∷ []) [] (none_picked (past_elements rows) (λ n life. alone _) 0 lives)
        (none_then (each closing 0 reported) (last ∷ []) [] (none_picked closing (λ n line. alone _) 0 reported) (alone _))
