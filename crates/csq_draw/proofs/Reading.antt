-- How the characters of bytes are read.
use Rattle.std.proofs.Common.{◌≡◌, ℕ, zero, suc, ◌-◌, ◌≤◌, List, [], ◌∷◌, ◌++◌, map, take, drop, length, chars, append_assoc, append-nil, length-drop, take_all, refl, ap, sym, ◌∙◌, arith}
use Rattle.std.specs.Str.{IsUtf8}
use Rattle.std.specs.Str.Lossy.{utf8_valid_len}
use Rattle.std.proofs.lemmas.Str.{chars-nil, utf8_valid_len-IsUtf8}
use Rattle.csq_draw.specs.Characters.{shown, marked, after_mark, characters_within, characters}

-- the characters of the front, the mark, and the bytes after it
abbrev front : List ℕ → List ℕ
front bs = map shown (chars (take (utf8_valid_len bs) bs))

abbrev behind : List ℕ → List ℕ
behind bs = drop (utf8_valid_len bs) bs

length-after_mark : (bs : List ℕ) → length (after_mark bs) ≡ length bs - 1
length-after_mark [] = refl
length-after_mark (b ∷ bs) = omega arith

none_within : (k : ℕ) → characters_within k [] ≡ []
unfolding characters_within utf8_valid_len
none_within zero = refl
none_within (suc k) = ap (λ t. map shown t ++ characters_within k []) chars-nil ∙ none_within k

is_nil : (bs : List ℕ) → length bs ≤ 0 → bs ≡ []
is_nil bs le = sym (take_all 0 bs le)

-- any bound from the length up gives the same characters
within_any : (k j : ℕ) (bs : List ℕ) → length bs ≤ k → length bs ≤ j → characters_within k bs ≡ characters_within j bs
unfolding characters_within
within_any zero j bs p q = let none = is_nil bs p in ap (characters_within zero) none ∙ sym (none_within j) ∙ ap (characters_within j) (sym none)
within_any (suc k) zero bs p q = let none = is_nil bs q in ap (characters_within (suc k)) none ∙ none_within (suc k) ∙ ap (characters_within zero) (sym none)
within_any (suc k) (suc j) bs p q =
    let n = utf8_valid_len bs in
    let less = length-after_mark (behind bs) in
    let left = length-drop n bs in
    ap (λ t. front bs ++ (marked (behind bs) ++ t)) (within_any k j (after_mark (behind bs)) (omega arith) (omega arith))

-- the characters of the front, the mark, and the characters of the rest
pub characters_step : (bs : List ℕ) → characters bs ≡ front bs ++ (marked (behind bs) ++ characters (after_mark (behind bs)))
unfolding characters_within
characters_step bs =
    let less = length-after_mark (behind bs) in
    let left = length-drop (utf8_valid_len bs) bs in
    within_any (length bs) (suc (length bs)) bs (omega arith) (omega arith)
    ∙ ap (λ t. front bs ++ (marked (behind bs) ++ t)) (within_any (length bs) (length (after_mark (behind bs))) (after_mark (behind bs)) (omega arith) (omega arith))

-- one more front was read, and its mark
pub read_more : (all rest made between new : List ℕ) → made ++ characters rest ≡ all → between ≡ made ++ front rest → new ≡ between ++ marked (behind rest) → new ++ characters (after_mark (behind rest)) ≡ all
read_more all rest made between new before a b =
    let more = characters (after_mark (behind rest)) in
    ap (λ t. t ++ more) (b ∙ ap (λ t. t ++ marked (behind rest)) a ∙ append_assoc made (front rest) (marked (behind rest)))
    ∙ append_assoc made (front rest ++ marked (behind rest)) more
    ∙ ap (λ t. made ++ t) (append_assoc (front rest) (marked (behind rest)) more ∙ sym (characters_step rest))
    ∙ before

-- all was read
pub read_all : (all rest made : List ℕ) → made ++ characters rest ≡ all → length rest ≡ 0 → made ≡ all
unfolding characters_within
read_all all rest made before empty = let none = is_nil rest (omega arith) in sym (append-nil made) ∙ ap (λ t. made ++ characters t) (sym none) ∙ before

-- what is UTF-8 is kept
pub characters_kept : (bs : List ℕ) → IsUtf8 bs → characters bs ≡ map shown (chars bs)
unfolding characters_within
characters_kept bs utf8 =
    let whole : utf8_valid_len bs ≡ length bs = utf8_valid_len-IsUtf8 bs utf8 in
    let left = length-drop (utf8_valid_len bs) bs in
    let none : behind bs ≡ [] = is_nil (behind bs) (omega arith) in
    characters_step bs
    ∙ ap (λ t. front bs ++ (marked t ++ characters (after_mark t))) none
    ∙ append-nil (front bs)
    ∙ ap (λ t. map shown (chars t)) (take_all (utf8_valid_len bs) bs (omega arith))
