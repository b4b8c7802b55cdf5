-- The first lines of a text.
use Rattle.std.proofs.Common.{◌≡◌, ℕ, zero, suc, ◌+◌, ◌-◌, ◌<◌, ◌≤◌, Bool, true, false, cond, List, [], ◌∷◌, ◌++◌, length, take, drop, get_or, refl, ap, sym, ◌∙◌, subst, arith, append_assoc, append-nil}
use Rattle.std.specs.Prelude.{◌==◌}
use Rattle.std.specs.List.{onto_first}
use Rattle.std.proofs.lemmas.List.{drop_more, take_more, take_all, drop_all}
use Rattle.std.proofs.lemmas.Bool.{eq-eqb, ne_eqb}
use Rattle.std.proofs.lemmas.List.Splits.{length-slice_split}
use Rattle.csq_replay.specs.Pieces.{lines_of, pieces, without_empty_last}
use Rattle.csq_program.specs.Cuts.{first_lines}

-- a first line before others
line_before : (parts : List (List ℕ)) → 0 < length parts → without_empty_last ([] ∷ parts) ≡ [] ∷ without_empty_last parts
line_before [] some = absurd (omega arith)
line_before (part ∷ parts) some = refl

-- a byte before the first line
byte_before : (byte : ℕ) (parts : List (List ℕ)) → 0 < length parts → without_empty_last (onto_first byte parts) ≡ onto_first byte (without_empty_last parts)
byte_before byte [] some = absurd (omega arith)
byte_before byte ([] ∷ []) some = refl
byte_before byte ((b ∷ part) ∷ []) some = refl
byte_before byte ([] ∷ next ∷ parts) some = refl
byte_before byte ((b ∷ part) ∷ next ∷ parts) some = refl

some_piece : (bytes : List ℕ) → 0 < length (pieces 10 bytes)
some_piece bytes = omega (arith, length-slice_split (λ b. b == 10) bytes)

-- a line feed ends an empty line
line_feed : (byte : ℕ) (bytes : List ℕ) → (byte == 10) ≡ true → lines_of (byte ∷ bytes) ≡ [] ∷ lines_of bytes
line_feed byte bytes is = rw is (line_before (pieces 10 bytes) (some_piece bytes))

-- any other byte stands in the first line
other_byte : (byte : ℕ) (bytes : List ℕ) → (byte == 10) ≡ false → lines_of (byte ∷ bytes) ≡ onto_first byte (lines_of bytes)
other_byte byte bytes is = rw is (byte_before byte (pieces 10 bytes) (some_piece bytes))

-- so it does where as many lines are left
first_of : (n byte : ℕ) (lines : List (List ℕ)) → onto_first byte (take (suc n) lines) ≡ take (suc n) (onto_first byte lines)
first_of zero byte [] = refl
first_of (suc n) byte [] = refl
first_of n byte (line ∷ lines) = refl

line_step : (n byte : ℕ) (bytes : List ℕ) (ends : Bool) → (byte == 10) ≡ ends
    → lines_of (first_lines (cond ends n (suc n)) bytes) ≡ take (cond ends n (suc n)) (lines_of bytes)
    → lines_of (byte ∷ first_lines (cond ends n (suc n)) bytes) ≡ take (suc n) (lines_of (byte ∷ bytes))
line_step n byte bytes true is same =
    line_feed byte (first_lines n bytes) is ∙ ap (λ lines. [] ∷ lines) same ∙ sym (ap (take (suc n)) (line_feed byte bytes is))
line_step n byte bytes false is same =
    other_byte byte (first_lines (suc n) bytes) is ∙ ap (onto_first byte) same ∙ first_of n byte (lines_of bytes) ∙ sym (ap (take (suc n)) (other_byte byte bytes is))

-- the lines of the first lines are the first of the lines
pub lines_first : (n : ℕ) (bytes : List ℕ) → lines_of (first_lines n bytes) ≡ take n (lines_of bytes)
lines_first zero bytes = refl
lines_first (suc n) [] = refl
lines_first (suc n) (byte ∷ bytes) = line_step n byte bytes (byte == 10) refl (lines_first (cond (byte == 10) n (suc n)) bytes)

-- of `count` lines that were asked for, `left` are left at a byte
abbrev pub IsLeftAt : ℕ → List ℕ → ℕ → ℕ → Type 0
IsLeftAt count text at left = first_lines count text ≡ take at text ++ first_lines left (drop at text)

-- no line is left
pub none_left : (count at : ℕ) (text : List ℕ) → IsLeftAt count text at 0 → take at text ≡ first_lines count text
none_left count at text is = sym (is ∙ append-nil (take at text))

first_none : (n : ℕ) → first_lines n [] ≡ []
first_none zero = refl
first_none (suc n) = refl

-- no byte is left
pub all_left : (count at left : ℕ) (text : List ℕ) → length text ≤ at → IsLeftAt count text at left → text ≡ first_lines count text
all_left count at left text beyond is =
    sym (is ∙ ap (λ rest. take at text ++ first_lines left rest) (drop_all at text beyond) ∙ ap (λ rest. take at text ++ rest) (first_none left) ∙ append-nil (take at text) ∙ take_all at text beyond)

-- a byte more, which ends a line or doesn't
byte_more : (count at left : ℕ) (text : List ℕ) (ends : Bool) → at < length text → (get_or text at 0 == 10) ≡ ends → IsLeftAt count text at (suc left)
    → IsLeftAt count text (at + 1) (cond ends left (suc left))
byte_more count at left text ends here tells is =
    let byte = get_or text at 0 in
    let rest = drop (at + 1) text in
    let more : first_lines (suc left) (byte ∷ rest) ≡ byte ∷ first_lines (cond ends left (suc left)) rest = ap (λ e. byte ∷ first_lines (cond e left (suc left)) rest) tells in
    is ∙ ap (λ bytes. take at text ++ first_lines (suc left) bytes) (drop_more text at 0 here)
    ∙ ap (λ bytes. take at text ++ bytes) more
    ∙ sym (append_assoc (take at text) (byte ∷ []) (first_lines (cond ends left (suc left)) rest))
    ∙ ap (λ before. before ++ first_lines (cond ends left (suc left)) rest) (sym (take_more text at 0 here))

pub line_less : (count at left next : ℕ) (text : List ℕ) → at < length text → (left ≡ 0 → ⊥) → get_or text at 0 ≡ 10 → next ≡ left - 1 → IsLeftAt count text at left → IsLeftAt count text (at + 1) next
line_less count at zero next text here some byte less is = absurd (some refl)
line_less count at (suc left) next text here some byte less is =
    let same : left ≡ next = omega (arith, less) in
    subst (IsLeftAt count text (at + 1)) same (byte_more count at left text true here (eq-eqb (get_or text at 0) 10 byte) is)

pub line_goes_on : (count at left next : ℕ) (text : List ℕ) → at < length text → (left ≡ 0 → ⊥) → (get_or text at 0 ≡ 10 → ⊥) → next ≡ left → IsLeftAt count text at left → IsLeftAt count text (at + 1) next
line_goes_on count at zero next text here some byte same is = absurd (some refl)
line_goes_on count at (suc left) next text here some byte same is =
    subst (IsLeftAt count text (at + 1)) (sym same) (byte_more count at left text false here (ne_eqb (get_or text at 0) 10 byte) is)
