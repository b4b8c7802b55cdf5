-- Eight hexadecimal digits.
use Rattle.std.proofs.Common.{◌≡◌, ℕ, zero, suc, ◌<◌, ◌≤◌, ◌^◌, Bool, true, false, List, [], ◌∷◌, length, get_or, refl, ap, sym, ◌∙◌, arith, ltb-true, ltb-false, Some, Ok, Err, subst}
use Rattle.std.proofs.lemmas.Int.Digits.{digits_value-lt}
use Rattle.std.specs.Char.{digit_value}
use Rattle.std.specs.Result.{result_ok}
use Rattle.std.specs.declared.result.Result.{Result}
use Rattle.csq_replay.proofs.Imports.{nat_lt, ◌==◌, slice_index, ne_eqb, get_or_default, slice_split_none, IsAscii, AllDigits, IsNumeral, digits_value, without_leading_plus, ParsesUnsigned, words_of}

-- a digit is no byte above 127, no plus and no space
digit_is : (c : ℕ) → digit_value c < 16 → (48 ≤ c) × (c < 128)
digit_is c h = go (nat_lt c 48) refl (nat_lt c 58) refl (nat_lt c 65) refl (nat_lt c 91) refl (nat_lt c 97) refl (nat_lt c 123) refl
  where
    go : (a : Bool) → nat_lt c 48 ≡ a → (b : Bool) → nat_lt c 58 ≡ b → (d : Bool) → nat_lt c 65 ≡ d → (e : Bool) → nat_lt c 91 ≡ e → (f : Bool) → nat_lt c 97 ≡ f → (g : Bool) → nat_lt c 123 ≡ g → (48 ≤ c) × (c < 128)
    go true x b y d z e v f w g u = let many : 36 < 16 = rw x at h in absurd (omega (arith, many))
    go false x true y d z e v f w g u = (omega (arith, ltb-false c 48 x), omega (arith, ltb-true c 58 y))
    go false x false y true z e v f w g u = (omega (arith, ltb-false c 48 x), omega (arith, ltb-true c 65 z))
    go false x false y false z true v f w g u = (omega (arith, ltb-false c 48 x), omega (arith, ltb-true c 91 v))
    go false x false y false z false v true w g u = (omega (arith, ltb-false c 48 x), omega (arith, ltb-true c 97 w))
    go false x false y false z false v false w true u = (omega (arith, ltb-false c 48 x), omega (arith, ltb-true c 123 u))
    go false x false y false z false v false w false u = let many : 36 < 16 = rw (x, y, z, v, w, u) at h in absurd (omega (arith, many))

digit_at : (word : List ℕ) → AllDigits 16 word → (k : ℕ) → k < length word → (48 ≤ get_or word k 0) × (get_or word k 0 < 128)
digit_at [] h k lt = absurd (omega arith)
digit_at (c ∷ word) h zero lt = digit_is c h.0
digit_at (c ∷ word) h (suc k) lt = digit_at word h.1 k (omega arith)

pub is_ascii : (word : List ℕ) → AllDigits 16 word → IsAscii word
is_ascii [] h i = omega arith
is_ascii (c ∷ word) h zero = (digit_is c h.0).1
is_ascii (c ∷ word) h (suc i) = is_ascii word h.1 i

-- digits are one word
pub words_of-digits : (word : List ℕ) → AllDigits 16 word → words_of word ≡ word ∷ []
words_of-digits word h = slice_split_none (λ b. b == 32) word (λ k d in_range.
    let digit = digit_at word h k in_range in
    let same = get_or_default word k d 0 in_range in
    ne_eqb (get_or word k d) 32 (λ e. omega (arith, digit.0, same, e)))

-- a word that begins with a digit has no plus in front
pub no_plus : (word : List ℕ) → (slice_index word 0 ≡ 43 → ⊥) → without_leading_plus word ≡ word
no_plus word other = rw (ne_eqb (slice_index word 0) 43 other) refl

pub first_digit : (word : List ℕ) → AllDigits 16 word → slice_index word 0 ≡ 43 → ⊥
first_digit [] h e = omega arith
first_digit (c ∷ word) h e = omega (arith, (digit_is c h.0).0)

pub below_limit : (word : List ℕ) → AllDigits 16 word → length word ≡ 8 → digits_value 16 word < 2 ^ 32
below_limit word h len = let lt : digits_value 16 word < 16 ^ 8 = rw len at (digits_value-lt 16 word h) in lt

-- so they are parsed
pub status_parsed : {E : Type 0} (word : List ℕ) (r : Result ℕ E) → ParsesUnsigned 32 16 word r → AllDigits 16 word → length word ≡ 8 → result_ok r ≡ Some (digits_value 16 word)
status_parsed word (Ok x) h digits len = ap (λ n. Some n) (h.1 ∙ ap (digits_value 16) (no_plus word (first_digit word digits)))
status_parsed word (Err e) h digits len =
    let P : List ℕ → Type 0 = λ w. IsNumeral 16 w × (digits_value 16 w < 2 ^ 32) in
    absurd (h (subst P (sym (no_plus word (first_digit word digits))) ((omega arith, digits), below_limit word digits len)))
