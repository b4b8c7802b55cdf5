-- How a canvas changes with the elements of a picture.
use Rattle.std.proofs.Common.{◌≡◌, ℕ, ◌+◌, ◌<◌, List, [], ◌∷◌, ◌++◌, take, length, get_or, append_assoc, append-nil, refl, ap, sym, ◌∙◌, arith, Result, Ok, Err, OnOk}
use Rattle.csq_draw.proofs.Imports.{length-take-le, take_more, Drew, with_all, each}
use Rattle.csq_draw.specs.declared.element.Element.{Element}

module _ {A : Type 0} (f : ℕ → A → List Element) where
  each-last : (n : ℕ) (xs : List A) (x : A) → each f n (xs ++ x ∷ []) ≡ each f n xs ++ f (n + length xs) x
  each-last n [] x = append-nil (f n x) ∙ ap (λ k. f k x) (omega arith)
  each-last n (y ∷ ys) x = ap (λ t. f n y ++ t) (each-last (n + 1) ys x) ∙ sym (append_assoc (f n y) (each f (n + 1) ys) (f (n + 1 + length ys) x)) ∙ ap (λ k. (f n y ++ each f (n + 1) ys) ++ f k x) (omega arith)

module _ {I : Type 0} (added : I → Element → I) where
  with_all-append : (image : I) (xs ys : List Element) → with_all added image (xs ++ ys) ≡ with_all added (with_all added image xs) ys
  with_all-append image [] ys = refl
  with_all-append image (x ∷ xs) ys = with_all-append (added image x) xs ys

  -- one that gained these elements, and then those, gained all
  pub drew_more : (old between new : I) (first second : List Element) → Drew added old between first → Drew added between new second → Drew added old new (first ++ second)
  drew_more old between new first second a b = b ∙ ap (λ image. with_all added image second) a ∙ sym (with_all-append old first second)

  -- one that gained what is the same
  pub drew_same : {A : Type 0} (old new : I) (of : A → List Element) (x y : A) → x ≡ y → Drew added old new (of x) → Drew added old new (of y)
  drew_same old new of x y same drew = drew ∙ ap (λ z. with_all added old (of z)) same

  module _ {A : Type 0} (f : ℕ → A → List Element) where
    -- one more of them was drawn
    pub drew_each : (xs : List A) (k : ℕ) (x : A) (old between new : I) → k < length xs → x ≡ get_or xs k x → Drew added old between (each f 0 (take k xs)) → Drew added between new (f k x) → Drew added old new (each f 0 (take (k + 1) xs))
    drew_each xs k x old between new lt at a b =
        let place : 0 + length (take k xs) ≡ k = omega (arith, length-take-le k xs (omega arith)) in
        let whole : each f 0 (take (k + 1) xs) ≡ each f 0 (take k xs) ++ f k x =
        ap (λ ys. each f 0 ys) (take_more xs k x lt ∙ ap (λ y. take k xs ++ y ∷ []) (sym at)) ∙ each-last f 0 (take k xs) x ∙ ap (λ n. each f 0 (take k xs) ++ f n x) place in
        drew_more old between new (each f 0 (take k xs)) (f k x) a b ∙ ap (λ es. with_all added old es) (sym whole)

-- what is so if there is a value is so of one
pub on_ok : {X E P : Type 0} (r : Result X E) (x : X) → OnOk r P → r ≡ Ok x → P
on_ok (Ok y) x p is = p
on_ok (Err e) x p is = absurd (cc is)
