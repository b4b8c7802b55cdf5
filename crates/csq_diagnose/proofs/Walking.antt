-- The words of a line, one after the other.
use Rattle.std.proofs.Common.{◌≡◌, ℕ, zero, suc, ◌+◌, ◌-◌, ◌<◌, ◌≤◌, ◌^◌, Bool, true, false, List, [], ◌∷◌, take, drop, length, refl, ap, sym, ◌∙◌, subst, arith, Option, Some, None, add-one, length-append}
use Rattle.std.specs.Option.{option_map}
use Rattle.std.proofs.lemmas.List.{take_all}
use Rattle.std.proofs.lemmas.List.Splits.{length-slice_split, join_with_byte-slice_split}
use Rattle.csq_diagnose.proofs.Imports.{slice_get, slice_index_or, is_some, is_none, not, IfSome, IfNone, MatchOption, ◌==◌, Bor, join_with_byte, words_of, Expected, Admits, Fit, expected_at, StandsThere, IsEnd, IsFirstMisfit, column_of, words_left}
use Rattle.csq_diagnose.specs.declared.misfit.Misfit.{Misfit}

-- one word more fits
fit_suc : (n : ℕ) (es : List Expected) (ws : List (List ℕ)) (w : List ℕ) → Fit (take n es) (take n ws) → n < length es → slice_get ws n ≡ Some w → Admits (expected_at es n) w → Fit (take (suc n) es) (take (suc n) ws)
fit_suc n [] ws w f lt g a = absurd (omega (arith, lt))
fit_suc zero (e ∷ es) [] w f lt g a = absurd cc
fit_suc zero (e ∷ es) (x ∷ ws) w f lt g a = let same : w ≡ x = cc g in (subst (λ v. Admits e v) same a, tt)
fit_suc (suc n) (e ∷ es) [] w f lt g a = absurd f
fit_suc (suc n) (e ∷ es) (x ∷ ws) w f lt g a = (f.0, fit_suc n es ws w f.1 (omega (arith, lt)) g a)

-- the first word of those that are left, and the others
first_left : (n : ℕ) (ws : List (List ℕ)) (w : List ℕ) (more : List (List ℕ)) → drop n ws ≡ w ∷ more → (slice_get ws n ≡ Some w) × (drop (suc n) ws ≡ more)
first_left zero ws w more e = (ap (λ l. slice_get l 0) e, ap (λ l. drop 1 l) e)
first_left (suc n) [] w more e = absurd cc
first_left (suc n) (x ∷ ws) w more e = first_left n ws w more e

none_left : (n : ℕ) (ws : List (List ℕ)) → drop n ws ≡ [] → slice_get ws n ≡ None
none_left zero ws e = ap (λ l. slice_get l 0) e
none_left (suc n) [] e = refl
none_left (suc n) (x ∷ ws) e = none_left n ws e

head_left : (n : ℕ) (ws : List (List ℕ)) → slice_get ws n ≡ slice_get (drop n ws) 0
head_left zero ws = refl
head_left (suc n) [] = refl
head_left (suc n) (x ∷ ws) = head_left n ws

length_left : (n : ℕ) (ws : List (List ℕ)) → drop n ws ≡ [] → length ws ≤ n
length_left zero [] e = omega arith
length_left zero (x ∷ ws) e = absurd cc
length_left (suc n) [] e = omega arith
length_left (suc n) (x ∷ ws) e = let le = length_left n ws e in omega (arith, le)

-- where nothing is left, nothing is left after one more
none_after_more : (n : ℕ) (ws : List (List ℕ)) → drop n ws ≡ [] → drop (suc n) ws ≡ []
none_after_more zero [] e = refl
none_after_more zero (x ∷ ws) e = absurd cc
none_after_more (suc n) [] e = refl
none_after_more (suc n) (x ∷ ws) e = none_after_more n ws e

pub none_left_after : (n : ℕ) (ws : List (List ℕ)) → drop n ws ≡ [] → drop (n + 1) ws ≡ []
none_left_after n ws e = ap (λ k. drop k ws) (add-one n) ∙ none_after_more n ws e

has_word : (ps : List (List ℕ)) → 1 ≤ length ps → is_none (slice_get ps 0) ≡ false
has_word [] le = absurd (omega (arith, le))
has_word (p ∷ ps) le = refl

not_some : (after : Option (Bor (List ℕ))) (b : Bool) → is_some after ≡ not b → b ≡ is_none after
not_some None true e = refl
not_some None false e = absurd cc
not_some (Some rest) true e = absurd cc
not_some (Some rest) false e = refl

none_after : (after : Option (Bor (List ℕ))) → is_none after ≡ is_none (slice_get (words_left after) 0)
none_after None = refl
none_after (Some rest) = sym (has_word (words_of rest.now) (let e = length-slice_split (λ b. b == 32) rest.now in omega (arith, e)))

-- past the last place nothing is expected
pub nothing_past : (n : ℕ) (es : List Expected) → length es ≤ n → expected_at es n ≡ expected_at [] n
nothing_past n [] le = refl
nothing_past zero (x ∷ es) le = absurd (omega (arith, le))
nothing_past (suc n) (x ∷ es) le = nothing_past n es (omega (arith, le))

-- a text is as long as its first word, at least
first_length : (w : List ℕ) (ws : List (List ℕ)) → length w ≤ length (join_with_byte 32 (w ∷ ws))
first_length w [] = omega arith
first_length w (x ∷ ws) = let sum = length-append w (32 ∷ join_with_byte 32 (x ∷ ws)) in omega (arith, sum)

module _ (line text word : List ℕ) (after : Option (Bor (List ℕ))) (n : ℕ) (left : drop n (words_of line) ≡ words_of text) (cut : words_of text ≡ word ∷ words_left after) where
  stands : slice_get (words_of line) n ≡ Some word
  stands = (first_left n (words_of line) word (words_left after) (left ∙ cut)).0

  -- what is left after the word
  pub left_after : drop (n + 1) (words_of line) ≡ words_left after
  left_after = ap (λ k. drop k (words_of line)) (add-one n) ∙ (first_left n (words_of line) word (words_left after) (left ∙ cut)).1

  pub one_more_fits : (es : List Expected) → Fit (take n es) (take n (words_of line)) → n < length es → Admits (expected_at es n) word → Fit (take (n + 1) es) (take (n + 1) (words_of line))
  one_more_fits es f lt a = subst (λ k. Fit (take k es) (take k (words_of line))) (sym (add-one n)) (fit_suc n es (words_of line) word f lt stands a)

  -- a word that may not stand there is a misfit
  pub stands_there : (m : Misfit) (w : Bor (List ℕ)) → m.before ≡ n → m.word ≡ Some w → w.now ≡ word → is_some after ≡ not m.is_last → m.column ≡ length line - length text + 1 → (¬ Admits m.expected word) → length text ≤ length line → length line < 2 ^ 63 → StandsThere line m
  stands_there m w before is shows last column unfit short few = record {
    word = ap (λ o. option_map (λ (v : Bor (List ℕ)). v.now) o) is ∙ ap Some shows ∙ sym stands ∙ ap (λ k. slice_get (words_of line) k) (sym before);
    column =
        let joined : join_with_byte 32 (drop m.before (words_of line)) ≡ text = ap (λ k. join_with_byte 32 (drop k (words_of line))) before ∙ ap (join_with_byte 32) left ∙ join_with_byte-slice_split 32 text in
        column ∙ ap (λ t. length line - length t + 1) (sym joined);
    last = rw is (not_some after m.is_last last ∙ none_after after ∙ ap (λ l. is_none (slice_get l 0)) (sym left_after) ∙ ap is_none (sym (head_left (n + 1) (words_of line))) ∙ ap (λ k. is_none (slice_get (words_of line) (k + 1))) (sym before));
    unfit = rw (is, shows) unfit;
    small = rw (is, shows) (let whole = ap length (sym (join_with_byte-slice_split 32 text)) in let part = first_length word (words_left after) in let cuts = ap (λ ws. length (join_with_byte 32 ws)) cut in omega (arith, column, few, short, whole, part, cuts));
  }

-- where the line ends, a missing word is one
pub end_there : (places : List Expected) (line : List ℕ) (n : ℕ) (m : Misfit) → IsEnd places line n m → drop n (words_of line) ≡ [] → StandsThere line m
end_there places line n m is left =
    let (before, lt, none, column, expected) = is in
    let at : drop m.before (words_of line) ≡ [] = ap (λ k. drop k (words_of line)) before ∙ left in
    let ends : length line + 1 ≡ column_of line [] = omega arith in record {
      word = ap (λ o. option_map (λ (v : Bor (List ℕ)). v.now) o) none ∙ sym (none_left m.before (words_of line) at);
      column = column ∙ ends ∙ ap (λ l. column_of line l) (sym at);
      last = rw none tt;
      unfit = rw none tt;
      small = rw none tt;
    }

-- all words fit
all_fit : (places : List Expected) (line : List ℕ) (n : ℕ) → Fit (take n places) (take n (words_of line)) → drop n (words_of line) ≡ [] → length places ≤ n → Fit places (words_of line)
all_fit places line n f left le =
    let words = take_all n (words_of line) (length_left n (words_of line) left) in
    let all = take_all n places le in
    subst (λ es. Fit es (words_of line)) all (subst (λ ws. Fit (take n places) ws) words f)

-- the line ends after n words, where none or more are expected
pub ended : (places : List Expected) (line : List ℕ) (n : ℕ) (r : Option Misfit) → Fit (take n places) (take n (words_of line)) → drop n (words_of line) ≡ [] → IfNone r (length places ≤ n) → IfSome r (λ m. IsEnd places line n m)
    → MatchOption r (Fit places (words_of line)) (IsFirstMisfit places line)
ended places line n None f left le is = all_fit places line n f left le
ended places line n (Some m) f left le is = record {
  begun = subst (λ k. Fit (take k places) (take k (words_of line))) (sym is.0) f;
  bound = let lt = is.1 in let before = is.0 in omega (arith, lt, before);
  expected = is.4 ∙ ap (λ k. expected_at places k) (sym is.0);
  short = rw is.2 (let lt = is.1 in let before = is.0 in omega (arith, lt, before));
  there = end_there places line n m is left;
}

pub item_expected : (n : ℕ) (es : List Expected) (d : Expected) → n < length es → slice_index_or es n d ≡ expected_at es n
item_expected n [] d lt = absurd (omega (arith, lt))
item_expected zero (x ∷ es) d lt = refl
item_expected (suc n) (x ∷ es) d lt = item_expected n es d (omega (arith, lt))
