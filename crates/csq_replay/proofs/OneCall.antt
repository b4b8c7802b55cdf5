-- A line names at most one call.
use Rattle.std.proofs.Common.{◌≡◌, ℕ, ◌≤◌, List, [], ◌∷◌, ◌++◌, length, refl, ap, sym, ◌∙◌, arith, decimal, codes, length-append, subst, lit≤, lit<}
use Rattle.std.proofs.lemmas.Str.Parse.{digit_at, numerals_by_value, tells_digits}
use Rattle.csq_replay.proofs.Imports.{join_with_byte, AllDigits, join_with_byte-slice_split, digits_decimal, FileId, NtStatus, IrpId, IrpLife, Place, Any, File, ScriptCall, words_of, IsShort, IsSkipped, IsWithinLine, IsNameWord}
use Rattle.csq_list.specs.declared.entry.Place.TheVariants.{Back, Front}
use Rattle.csq_replay.specs.declared.script.call.ScriptCall.TheVariants.{Insert, Next, Remove, Mark, Routine, Cancel, Complete, Close, Cleanup, Flag, Status, Reuse, PutBack}
use Rattle.csq_replay.specs.CallLine.{call_name, place_word, IsIrpWord, IsFileWord, IsHexStatus, IsOne, AreOperands, IsCallLine}
use Rattle.csq_replay.proofs.CallWords.{letters}
use Rattle.csq_replay.proofs.NameWords.{number_by_text, irp_by_text, same_name, short_number}
use Rattle.csq_replay.proofs.StepText.{plain_name}

file_by_text : (f g : FileId) → IsShort f.0 → IsShort g.0 → decimal f.0 ≡ decimal g.0 → f ≡ g
file_by_text f g a b e = let named : ℕ → FileId = λ n. record { 0 = n } in ap named (number_by_text f.0 g.0 a b e)

-- a word names one IRP, one file object, one place, one status
one_irp : (word : List ℕ) (i j : IrpId) → IsIrpWord word i → IsIrpWord word j → i ≡ j
one_irp word i j a b = irp_by_text i j a.1 b.1 (sym a.0 ∙ b.0)

one_file : (word : List ℕ) (f g : FileId) → IsFileWord word f → IsFileWord word g → f ≡ g
one_file word f g a b = file_by_text f g a.1 b.1 (sym a.0 ∙ b.0)

one_place : (p q : Place) → place_word p ≡ place_word q → p ≡ q
one_place Back Back e = refl
one_place Front Front e = refl
one_place p q e = let lengths = ap length e in absurd (omega (arith, lengths))

one_status : (word : List ℕ) (a b : NtStatus) → IsHexStatus word a.0 → IsHexStatus word b.0 → a ≡ b
one_status word a b is others = let status : ℕ → NtStatus = λ n. record { 0 = n } in ap status (is.2 ∙ sym others.2)

-- a star is no number
star_no_number : (n : ℕ) → IsShort n → codes "*" ≡ decimal n → ⊥
star_no_number n lt e =
    let D : List ℕ → Type 0 = λ word. AllDigits 10 word in
    let digits = subst D (sym e) (digits_decimal (numerals_by_value _ tells_digits) n (omega (arith, lt))) in
    absurd (omega (arith, digit_at (codes "*") 0 digits (lit< tt)))

module _ (words : List (List ℕ)) where
  both_irps : (i j : IrpId) → IsOne (λ word. IsIrpWord word i) words → IsOne (λ word. IsIrpWord word j) words → i ≡ j
  both_irps i j (word, is, named) (other, same, again) =
      let e : other ≡ word = cc (is, same) in
      let P : List ℕ → Type 0 = λ w. IsIrpWord w j in
      one_irp word i j named (subst P e again)

  both_names : (i j : IrpLife) → IsOne (λ word. IsNameWord word i) words → IsOne (λ word. IsNameWord word j) words → i ≡ j
  both_names i j (word, is, named) (other, same, again) =
      let e : other ≡ word = cc (is, same) in
      let P : List ℕ → Type 0 = λ w. IsNameWord w j in
      same_name word i j named (subst P e again)

  both_files : (f g : FileId) → IsOne (λ word. IsFileWord word f) words → IsOne (λ word. IsFileWord word g) words → f ≡ g
  both_files f g (word, is, named) (other, same, again) =
      let e : other ≡ word = cc (is, same) in
      let P : List ℕ → Type 0 = λ w. IsFileWord w g in
      one_file word f g named (subst P e again)

  no_star : (f : FileId) → words ≡ codes "*" ∷ [] → IsOne (λ word. IsFileWord word f) words → ⊥
  no_star f star (word, is, named) = let e : codes "*" ≡ word = cc (star, is) in star_no_number f.0 named.1 (e ∙ named.0)

  -- three letters of its name single out a call, and its operands the rest
  same_operands : (c d : ScriptCall) → call_name c ≡ call_name d → AreOperands words c → AreOperands words d → c ≡ d
  same_operands (Insert i f p) (Insert j g q) e (irp, file, is, first, second) (irp', file', is', first', second') =
      let same : irp' ≡ irp = cc (is, is') in
      let too : file' ≡ file = cc (is, is') in
      let last : place_word p ≡ place_word q = cc (is, is') in
      let P : List ℕ → Type 0 = λ w. IsIrpWord w j in
      let Q : List ℕ → Type 0 = λ w. IsFileWord w g in
      ap (λ x. Insert x f p) (one_irp irp i j first (subst P same first')) ∙ ap (λ x. Insert j x p) (one_file file f g second (subst Q too second')) ∙ ap (Insert j g) (one_place p q last)
  same_operands (Next Any) (Next Any) e a b = refl
  same_operands (Next Any) (Next (File g)) e a b = absurd (no_star g a b)
  same_operands (Next (File f)) (Next Any) e a b = absurd (no_star f b a)
  same_operands (Next (File f)) (Next (File g)) e a b = ap (λ x. Next (File x)) (both_files f g a b)
  same_operands (Remove i) (Remove j) e a b = ap Remove (both_names i j a b)
  same_operands (Mark i) (Mark j) e a b = ap Mark (both_names i j a b)
  same_operands (Routine i) (Routine j) e a b = ap Routine (both_irps i j a b)
  same_operands (Cancel i) (Cancel j) e a b = ap Cancel (both_names i j a b)
  same_operands (Complete i status) (Complete j other) e (irp, digits, is, first, second) (irp', digits', is', first', second') =
      let same : irp' ≡ irp = cc (is, is') in
      let too : digits' ≡ digits = cc (is, is') in
      let P : List ℕ → Type 0 = λ w. IsIrpWord w j in
      let Q : List ℕ → Type 0 = λ w. IsHexStatus w other.0 in
      ap (λ x. Complete x status) (one_irp irp i j first (subst P same first')) ∙ ap (Complete j) (one_status digits status other second (subst Q too second'))
  same_operands (Close f) (Close g) e a b = ap Close (both_files f g a b)
  same_operands (Cleanup f) (Cleanup g) e a b = ap Cleanup (both_files f g a b)
  same_operands (Flag i) (Flag j) e a b = ap Flag (both_irps i j a b)
  same_operands (Status i) (Status j) e a b = ap Status (both_irps i j a b)
  same_operands (Reuse i) (Reuse j) e a b = ap Reuse (both_irps i j a b)
  same_operands (PutBack i p) (PutBack j q) e (irp, is, first) (irp', is', first') =
      let same : irp' ≡ irp = cc (is, is') in
      let last : place_word p ≡ place_word q = cc (is, is') in
      let P : List ℕ → Type 0 = λ w. IsIrpWord w j in
      ap (λ x. PutBack x p) (one_irp irp i j first (subst P same first')) ∙ ap (PutBack j) (one_place p q last)
  same_operands c d e a b = let names = ap letters e in absurd (omega (arith, names))

pub same_call : (line : List ℕ) (c d : ScriptCall) → IsCallLine line c → IsCallLine line d → c ≡ d
same_call line c d (name, operands, cut, is) (name', operands', cut', is') =
    let names : name ≡ name' = cc (cut, cut') in
    let others : operands' ≡ operands = cc (cut, cut') in
    let P : List (List ℕ) → Type 0 = λ ws. AreOperands ws d in
    same_operands operands c d (sym is.0 ∙ names ∙ is'.0) is.1 (subst P others is'.1)

-- the line, its words in a row
line_is : (line : List ℕ) (words : List (List ℕ)) → words_of line ≡ words → line ≡ join_with_byte 32 words
line_is line words cut = sym (join_with_byte-slice_split 32 line) ∙ ap (join_with_byte 32) cut

-- no call's name begins with #
no_comment : (c : ScriptCall) (operands : List (List ℕ)) → ¬ IsSkipped (join_with_byte 32 (call_name c ∷ operands))
no_comment (Insert i f p) [] h = absurd (omega (arith, h))
no_comment (Insert i f p) (w ∷ ws) h = absurd (omega (arith, h))
no_comment (Next k) [] h = absurd (omega (arith, h))
no_comment (Next k) (w ∷ ws) h = absurd (omega (arith, h))
no_comment (Remove i) [] h = absurd (omega (arith, h))
no_comment (Remove i) (w ∷ ws) h = absurd (omega (arith, h))
no_comment (Mark i) [] h = absurd (omega (arith, h))
no_comment (Mark i) (w ∷ ws) h = absurd (omega (arith, h))
no_comment (Routine i) [] h = absurd (omega (arith, h))
no_comment (Routine i) (w ∷ ws) h = absurd (omega (arith, h))
no_comment (Cancel i) [] h = absurd (omega (arith, h))
no_comment (Cancel i) (w ∷ ws) h = absurd (omega (arith, h))
no_comment (Complete i s) [] h = absurd (omega (arith, h))
no_comment (Complete i s) (w ∷ ws) h = absurd (omega (arith, h))
no_comment (Close f) [] h = absurd (omega (arith, h))
no_comment (Close f) (w ∷ ws) h = absurd (omega (arith, h))
no_comment (Cleanup f) [] h = absurd (omega (arith, h))
no_comment (Cleanup f) (w ∷ ws) h = absurd (omega (arith, h))
no_comment (Flag i) [] h = absurd (omega (arith, h))
no_comment (Flag i) (w ∷ ws) h = absurd (omega (arith, h))
no_comment (Status i) [] h = absurd (omega (arith, h))
no_comment (Status i) (w ∷ ws) h = absurd (omega (arith, h))
no_comment (Reuse i) [] h = absurd (omega (arith, h))
no_comment (Reuse i) (w ∷ ws) h = absurd (omega (arith, h))
no_comment (PutBack i p) [] h = absurd (omega (arith, h))
no_comment (PutBack i p) (w ∷ ws) h = absurd (omega (arith, h))

-- a line that names a call is no comment
pub call_not_skipped : (line : List ℕ) (c : ScriptCall) → IsCallLine line c → ¬ IsSkipped line
call_not_skipped line c (name, operands, cut, is) skipped =
    no_comment c operands (subst IsSkipped (line_is line (name ∷ operands) cut ∙ ap (λ w. join_with_byte 32 (w ∷ operands)) is.0) skipped)

module _ (words : List (List ℕ)) where
  one_irp_short : (i : IrpId) → IsOne (λ word. IsIrpWord word i) words → length (join_with_byte 32 words) ≤ 9
  one_irp_short i (word, is, named) = rw (is, named.0) (short_number i.0 named.1)

  one_name_short : (i : IrpLife) → IsOne (λ word. IsNameWord word i) words → length (join_with_byte 32 words) ≤ 19
  one_name_short i (word, is, named) = rw is (plain_name word i named).1

  one_file_short : (f : FileId) → IsOne (λ word. IsFileWord word f) words → length (join_with_byte 32 words) ≤ 9
  one_file_short f (word, is, named) = rw (is, named.0) (short_number f.0 named.1)

place_short : (p : Place) → length (place_word p) ≤ 5
place_short Back = lit≤ tt
place_short Front = lit≤ tt

-- the operands of a call are short
operands_short : (words : List (List ℕ)) (c : ScriptCall) → AreOperands words c → length (join_with_byte 32 words) ≤ 25
operands_short words (Insert i f p) (irp, file, is, first, second) =
    rw is (omega (arith, length-append irp (32 ∷ (file ++ (32 ∷ place_word p))), length-append file (32 ∷ place_word p), ap length first.0, ap length second.0, short_number i.0 first.1, short_number f.0 second.1, place_short p))
operands_short words (Next Any) is = rw is (lit≤ tt)
operands_short words (Next (File f)) h = omega (arith, one_file_short words f h)
operands_short words (Remove i) h = omega (arith, one_name_short words i h)
operands_short words (Mark i) h = omega (arith, one_name_short words i h)
operands_short words (Routine i) h = omega (arith, one_irp_short words i h)
operands_short words (Cancel i) h = omega (arith, one_name_short words i h)
operands_short words (Complete i status) (irp, digits, is, first, second) =
    rw is (omega (arith, length-append irp (32 ∷ digits), ap length first.0, short_number i.0 first.1, second.0))
operands_short words (Close f) h = omega (arith, one_file_short words f h)
operands_short words (Cleanup f) h = omega (arith, one_file_short words f h)
operands_short words (Flag i) h = omega (arith, one_irp_short words i h)
operands_short words (Status i) h = omega (arith, one_irp_short words i h)
operands_short words (Reuse i) h = omega (arith, one_irp_short words i h)
operands_short words (PutBack i p) (irp, is, first) =
    rw is (omega (arith, length-append irp (32 ∷ place_word p), ap length first.0, short_number i.0 first.1, place_short p))

name_short : (c : ScriptCall) → length (call_name c) ≤ 8
name_short (Insert i f p) = lit≤ tt
name_short k = lit≤ tt

joined_short : (name : List ℕ) (words : List (List ℕ)) → length name ≤ 8 → length (join_with_byte 32 words) ≤ 25 → length (join_with_byte 32 (name ∷ words)) ≤ 64
joined_short name [] a b = omega (arith, a)
joined_short name (w ∷ ws) a b = omega (arith, a, b, length-append name (32 ∷ join_with_byte 32 (w ∷ ws)))

-- a line that names a call isn't too long
pub call_is_within : (line : List ℕ) (c : ScriptCall) → IsCallLine line c → IsWithinLine line
call_is_within line c (name, operands, cut, is) =
    rw (line_is line (name ∷ operands) cut) (joined_short name operands (rw is.0 (name_short c)) (operands_short operands c is.1))
