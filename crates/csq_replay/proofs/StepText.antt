-- The text of a line that names a step.
use Rattle.std.proofs.Common.{inl, inr, true, ltb, ltb-true, ◌≡◌, ℕ, ◌+◌, ◌<◌, ◌≤◌, List, [], ◌∷◌, ◌++◌, length, Option, Some, None, refl, ap, sym, ◌∙◌, arith, codes, decimal, length-append, lit≤}
use Rattle.std.proofs.lemmas.List.Sums.{AllPass-from_list_all}
use Rattle.std.proofs.lemmas.Str.Ascii.{IsAscii-from_all}
use Rattle.csq_replay.proofs.Imports.{join_with_byte, list_all, IsAscii, All-cons, All-nil, join_with_byte-slice_split, IsAscii-append, IsAscii-decimal, Kind, Arm, Test, Disarm, End, Flag, Take, Out, Done, Renew, Rearm, Step, number, life_of, name_of, IrpLife, pass_text, words_of, verb_of, IsNameWord, AreNameWords, IsStepLine}
use Rattle.csq_replay.proofs.NameWords.{name_ascii, short_number}

-- an ASCII text of at most so many bytes
abbrev pub IsPlain : ℕ → List ℕ → Type 0
IsPlain n text = IsAscii text × (length text ≤ n)

plain_more : (n : ℕ) (b : ℕ) (text : List ℕ) → b < 128 → IsPlain n text → IsPlain (n + 1) (b ∷ text)
plain_more n b text lt h = (IsAscii-append (b ∷ []) text (IsAscii-from_all (b ∷ []) (All-cons (λ x. x < 128) b [] lt (All-nil (λ x. x < 128)))) h.0, let le = h.1 in omega arith)

plain_both : (m n : ℕ) (text more : List ℕ) → IsPlain m text → IsPlain n more → IsPlain (m + n) (text ++ more)
plain_both m n text more a b = (IsAscii-append text more a.0 b.0, let le = a.1 in let lf = b.1 in omega (arith, length-append text more))

pub plain_name : (word : List ℕ) (i : IrpLife) → IsNameWord word i → IsPlain 19 word
plain_name word i h = (name_ascii word i h, size h)
  where
    size : IsNameWord word i → length word ≤ 19
    size (inl g) = rw g.0 (omega (arith, short_number (number i) g.1))
    size (inr g) = rw g.0 (omega (arith, length-append (decimal (number i)) (64 ∷ decimal (life_of i)), short_number (number i) g.1, short_number (life_of i) g.2))

plain_literal : (n : ℕ) (text : List ℕ) → list_all (λ b. ltb b 128) text ≡ true → length text ≤ n → IsPlain n text
plain_literal n text h le = (IsAscii-from_all text (λ k d lt. ltb-true _ _ (AllPass-from_list_all (λ b. ltb b 128) text h k d lt)), le)

plain_verb : (k : Kind) → IsPlain 6 (verb_of k)
plain_verb (Arm i) = plain_literal 6 (codes "arm") refl (lit≤ tt)
plain_verb (Test i) = plain_literal 6 (codes "test") refl (lit≤ tt)
plain_verb (Disarm i) = plain_literal 6 (codes "disarm") refl (lit≤ tt)
plain_verb End = plain_literal 6 (codes "end") refl (lit≤ tt)
plain_verb (Flag i) = plain_literal 6 (codes "flag") refl (lit≤ tt)
plain_verb (Take i) = plain_literal 6 (codes "take") refl (lit≤ tt)
plain_verb (Out i) = plain_literal 6 (codes "out") refl (lit≤ tt)
plain_verb (Done i) = plain_literal 6 (codes "done") refl (lit≤ tt)
plain_verb (Renew i) = plain_literal 6 (codes "renew") refl (lit≤ tt)
plain_verb (Rearm i) = plain_literal 6 (codes "rearm") refl (lit≤ tt)

-- the words of a kind, joined behind those of a pass
kind_tail : (pass : List ℕ) (k : Kind) (names : List (List ℕ)) (o : Option IrpLife) → AreNameWords names o
    → (tail : List ℕ) × (join_with_byte 32 (pass ∷ verb_of k ∷ names) ≡ pass ++ (32 ∷ tail)) × IsPlain 26 tail
kind_tail pass k names None h = (verb_of k, ap (λ ns. join_with_byte 32 (pass ∷ verb_of k ∷ ns)) h, ((plain_verb k).0, let le = (plain_verb k).1 in omega (arith, le)))
kind_tail pass k names (Some i) (word, e, h) = (
  verb_of k ++ (32 ∷ word),
  ap (λ ns. join_with_byte 32 (pass ∷ verb_of k ∷ ns)) e,
  plain_both 6 20 (verb_of k) (32 ∷ word) (plain_verb k) (plain_more 19 32 word (omega arith) (plain_name word i h)),
)

-- a line that names a step is its pass, a space, and a plain text
pub line_text : (line : List ℕ) (s : Step) → IsStepLine line s → (tail : List ℕ) × (line ≡ pass_text s.pass ++ (32 ∷ tail)) × IsPlain 26 tail
line_text line s (first, rest, cut, pass, (names, kind, is)) =
    let words : words_of line ≡ pass_text s.pass ∷ verb_of s.kind ∷ names = cut ∙ ap (λ w. w ∷ rest) pass.0 ∙ ap (λ ws. pass_text s.pass ∷ ws) kind in
    let t = kind_tail (pass_text s.pass) s.kind names (name_of s.kind) is in
    (t.0, sym (join_with_byte-slice_split 32 line) ∙ ap (join_with_byte 32) words ∙ t.1, t.2)

-- such a line is ASCII
pub line_ascii : (line : List ℕ) (s : Step) → IsStepLine line s → IsAscii line
line_ascii line s h =
    let t = line_text line s h in
    let short = h.3.1 in
    let pass : IsPlain 10 (pass_text s.pass) = plain_more 9 112 (decimal s.pass.0) (omega arith) (IsAscii-decimal s.pass.0 (omega (arith, short)), short_number s.pass.0 short) in
    rw t.1 (IsAscii-append (pass_text s.pass) (32 ∷ t.0) pass.0 (plain_more 26 32 t.0 (omega arith) t.2).0)
