-- Bytes that are printed.
use Rattle.std.proofs.Common.{◌≡◌, ℕ, zero, suc, ◌<◌, ◌≤◌, Bool, true, false, cond, List, [], ◌∷◌, length, get_or, refl, arith, Some, None, ltb, ltb-false}
use Rattle.csq_diagnose.proofs.Imports.{position, not, slice_get, slice_index_or, position_or_len, IsUtf8}
use Rattle.std.specs.Char.{is_ascii_graphic}
use Rattle.std.proofs.lemmas.List.Sums.{fails_before_first}
use Rattle.std.proofs.lemmas.Str.{IsUtf8-from_ascii}
use Rattle.std.proofs.lemmas.Str.Ascii.{IsAscii-from_all}
use Rattle.csq_diagnose.specs.Founds.{is_strange}

printed : (b : Bool) → not b ≡ false → b ≡ true
printed true e = refl
printed false e = absurd cc

below : (byte : ℕ) → is_ascii_graphic byte ≡ true → byte < 128
below byte e = grind (arith, e)

none_found : (t : Bool) (n : ℕ) → cond t (Some n) None ≡ None → t ≡ false
none_found true n e = absurd cc
none_found false n e = refl

-- a word without a strange byte is text
pub is_text : (word : List ℕ) → position is_strange word ≡ None → IsUtf8 word
is_text word none =
    let beyond : length word ≤ position_or_len is_strange word = ltb-false (position_or_len is_strange word) (length word) (none_found (ltb (position_or_len is_strange word) (length word)) (position_or_len is_strange word) none) in
    IsUtf8-from_ascii word (IsAscii-from_all word (λ k d lt. below (get_or word k d) (printed (is_ascii_graphic (get_or word k d)) (fails_before_first is_strange word k d (omega (arith, beyond, lt))))))

-- the byte of a word in a place
pub got : (word : List ℕ) (at d : ℕ) → at < length word → slice_get word at ≡ Some (slice_index_or word at d)
got [] at d lt = absurd (omega (arith, lt))
got (b ∷ word) zero d lt = refl
got (b ∷ word) (suc at) d lt = got word at d (omega (arith, lt))
