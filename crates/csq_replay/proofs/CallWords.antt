-- The words of a call.
use Rattle.std.proofs.Common.{Bool, true, false, eq-eqb, ◌≡◌, ℕ, ◌+◌, ◌*◌, List, [], ◌∷◌, slice_index, Option, Some, None, inl, inr, refl, ap, sym, ◌∙◌, arith, decimal, codes, subst}
use Rattle.std.specs.Cmp.Lexicographic.{pointwise}
use Rattle.csq_replay.proofs.Imports.{nat_eq, MatchOption, NtStatus, IrpLife, Place, Any, File, ScriptCall, words_of, IsShort, IsNumber, IsNameWord}
use Rattle.csq_replay.specs.declared.script.call.ScriptCall.TheVariants.{Insert, Next, Remove, Mark, Routine, Cancel, Complete, Close, Cleanup, Flag, Status, Reuse, PutBack}
use Rattle.csq_replay.specs.CallLine.{call_name, named_life, place_word, IsLifeName, IsHexStatus, IsOne, IsNamed}
use Rattle.csq_replay.proofs.NameWords.{alone, word_alone, same_name, words_of-decimal}
use Rattle.csq_replay.proofs.StatusWords.{words_of-digits}

-- three letters single out a name
abbrev pub letters : List ℕ → ℕ
letters name = slice_index name 0 + (1000 * slice_index name 1 + 1000000 * slice_index name 2)

module _ (operands irp rest file place : List ℕ) (cut : words_of operands ≡ irp ∷ words_of rest) (cut_file : words_of rest ≡ file ∷ words_of place) where
  -- where the last word is no place, no insert is named
  pub insert_no_place : ((p : Place) → ¬ (place ≡ place_word p)) → (c : ScriptCall) → ¬ IsNamed (codes "insert") (words_of operands) c
  insert_no_place none (Insert i f p) h =
      let (first, second, words, is_irp, is_file) = h.1 in
      let last : words_of place ≡ place_word p ∷ [] = cc (cut, cut_file, words) in
      none p (alone place (place_word p) last)
  insert_no_place none c h = let e = ap letters h.0 in absurd (omega (arith, e))

module _ (operands irp place : List ℕ) (cut : words_of operands ≡ irp ∷ words_of place) where
  -- where the second word is no place, no put-back is named
  pub put_back_no_place : ((p : Place) → ¬ (place ≡ place_word p)) → (c : ScriptCall) → ¬ IsNamed (codes "put_back") (words_of operands) c
  put_back_no_place none (PutBack i p) h =
      let (first, words, is_irp) = h.1 in
      let last : words_of place ≡ place_word p ∷ [] = cc (cut, words) in
      none p (alone place (place_word p) last)
  put_back_no_place none c h = let e = ap letters h.0 in absurd (omega (arith, e))

module _ (operands irp status : List ℕ) (cut : words_of operands ≡ irp ∷ words_of status) where
  -- where the second word is no status, no completion is named
  pub complete_no_status : ((code : NtStatus) → ¬ IsHexStatus status code.0) → (c : ScriptCall) → ¬ IsNamed (codes "complete") (words_of operands) c
  complete_no_status none (Complete i code) h =
      let (first, digits, words, is_irp, is_status) = h.1 in
      let last : words_of status ≡ digits ∷ [] = cc (cut, words) in
      let P : List ℕ → Type 0 = λ w. IsHexStatus w code.0 in
      none code (subst P (sym (alone status digits last)) is_status)
  complete_no_status none c h = let e = ap letters h.0 in absurd (omega (arith, e))

  pub complete_named : (n : ℕ) (code : NtStatus) → IsNumber irp n → IsHexStatus status code.0 → IsNamed (codes "complete") (words_of operands) (Complete (record { 0 = n }) code)
  complete_named n code is_irp is_status = (refl, (irp, status, cut ∙ ap (λ words. irp ∷ words) (words_of-digits status is_status.1), is_irp, is_status))

module _ (operand : List ℕ) where
  -- where the operand is no number and no star, no removal is named
  pub next_no_number : ((n : ℕ) → ¬ IsNumber operand n) → (operand ≡ codes "*" → ⊥) → (c : ScriptCall) → ¬ IsNamed (codes "next") (words_of operand) c
  next_no_number none star (Next Any) h = star (alone operand (codes "*") h.1)
  next_no_number none star (Next (File f)) h =
      let (name, (word, words, is)) = h in none f.0 (alone operand word words ∙ is.0, is.1)
  next_no_number none star c h = let e = ap letters h.0 in absurd (omega (arith, e))

  number_word : (n : ℕ) → IsNumber operand n → words_of operand ≡ operand ∷ []
  number_word n is = ap words_of is.0 ∙ words_of-decimal n (omega (arith, is.1)) ∙ ap (λ w. w ∷ []) (sym is.0)

  pub next_named : (n : ℕ) → IsNumber operand n → IsNamed (codes "next") (words_of operand) (Next (File (record { 0 = n })))
  next_named n is = (refl, (operand, number_word n is, is))

  is_number : ((n : ℕ) → ¬ IsNumber operand n) → (n : ℕ) → ¬ IsOne (λ word. (word ≡ decimal n) × IsShort n) (words_of operand)
  is_number none n h = let (word, words, is) = h in none n (alone operand word words ∙ is.0, is.1)

  -- where it is no number, no call of one operand is named that names no life
  pub no_call : (name : List ℕ) → (name ≡ codes "insert" → ⊥) → (name ≡ codes "next" → ⊥) → (name ≡ codes "complete" → ⊥) → (name ≡ codes "put_back" → ⊥) → ¬ IsLifeName name → ((n : ℕ) → ¬ IsNumber operand n) → (c : ScriptCall) → ¬ IsNamed name (words_of operand) c
  no_call name insert next complete back life none (Insert i f p) h = insert h.0
  no_call name insert next complete back life none (Next k) h = next h.0
  no_call name insert next complete back life none (Complete i status) h = complete h.0
  no_call name insert next complete back life none (PutBack i p) h = back h.0
  no_call name insert next complete back life none (Remove i) h = life (inl h.0)
  no_call name insert next complete back life none (Mark i) h = life (inr (inl h.0))
  no_call name insert next complete back life none (Cancel i) h = life (inr (inr h.0))
  no_call name insert next complete back life none (Routine i) h = is_number none i.0 h.1
  no_call name insert next complete back life none (Close f) h = is_number none f.0 h.1
  no_call name insert next complete back life none (Cleanup f) h = is_number none f.0 h.1
  no_call name insert next complete back life none (Flag i) h = is_number none i.0 h.1
  no_call name insert next complete back life none (Status i) h = is_number none i.0 h.1
  no_call name insert next complete back life none (Reuse i) h = is_number none i.0 h.1

  -- a call of such a name names a life
  life_named : (name : List ℕ) → IsLifeName name → (c : ScriptCall) → IsNamed name (words_of operand) c → (i : IrpLife) × (named_life c ≡ Some i) × IsOne (λ word. IsNameWord word i) (words_of operand)
  life_named name life (Remove i) h = (i, refl, h.1)
  life_named name life (Mark i) h = (i, refl, h.1)
  life_named name life (Cancel i) h = (i, refl, h.1)
  life_named name life c h = absurd (differs life (λ e. let letters_are = ap letters (sym e ∙ h.0) in omega (arith, letters_are)) (λ e. let letters_are = ap letters (sym e ∙ h.0) in omega (arith, letters_are)) (λ e. let letters_are = ap letters (sym e ∙ h.0) in omega (arith, letters_are)))
    where
      differs : IsLifeName name → (name ≡ codes "remove" → ⊥) → (name ≡ codes "mark" → ⊥) → (name ≡ codes "cancel" → ⊥) → ⊥
      differs (inl e) a b d = a e
      differs (inr (inl e)) a b d = b e
      differs (inr (inr e)) a b d = d e

  -- where the operand names no life, no call is named
  pub no_life_call : (name : List ℕ) → IsLifeName name → ((i : IrpLife) → ¬ IsNameWord operand i) → (c : ScriptCall) → ¬ IsNamed name (words_of operand) c
  no_life_call name life none c h =
      let (i, is, (word, words, named)) = life_named name life c h in
      let P : List ℕ → Type 0 = λ w. IsNameWord w i in
      none i (subst P (sym (alone operand word words)) named)

  named_call : (name : List ℕ) (i : IrpLife) → IsNameWord operand i → (c : ScriptCall) → call_name c ≡ name → named_life c ≡ Some i → IsNamed name (words_of operand) c
  named_call name i named (Remove j) e f = let same : i ≡ j = cc f in let P : IrpLife → Type 0 = λ x. IsOne (λ word. IsNameWord word x) (words_of operand) in (sym e, subst P same (operand, word_alone operand i named, named))
  named_call name i named (Mark j) e f = let same : i ≡ j = cc f in let P : IrpLife → Type 0 = λ x. IsOne (λ word. IsNameWord word x) (words_of operand) in (sym e, subst P same (operand, word_alone operand i named, named))
  named_call name i named (Cancel j) e f = let same : i ≡ j = cc f in let P : IrpLife → Type 0 = λ x. IsOne (λ word. IsNameWord word x) (words_of operand) in (sym e, subst P same (operand, word_alone operand i named, named))
  named_call name i named c e f = absurd (cc f)

  pub call_of_life_word : (name : List ℕ) → IsLifeName name → (i : IrpLife) → IsNameWord operand i → (found : Option ScriptCall)
      → MatchOption found ((c : ScriptCall) → ¬ ((call_name c ≡ name) × (named_life c ≡ Some i))) (λ c. (call_name c ≡ name) × (named_life c ≡ Some i))
      → MatchOption found ((c : ScriptCall) → ¬ IsNamed name (words_of operand) c) (IsNamed name (words_of operand))
  call_of_life_word name life i named (Some c) h = named_call name i named c h.0 h.1
  call_of_life_word name life i named None h = λ c is.
      let (j, life_is, (word, words, other)) = life_named name life c is in
      let P : List ℕ → Type 0 = λ w. IsNameWord w j in
      let same : i ≡ j = same_name operand i j named (subst P (sym (alone operand word words)) other) in
      h c (sym is.0, life_is ∙ ap (λ x. Some x) (sym same))

  pub call_of_number : (name : List ℕ) (n : ℕ) → IsNumber operand n → (found : Option ScriptCall)
      → MatchOption found ((c : ScriptCall) → ¬ IsNamed name (decimal n ∷ []) c) (IsNamed name (decimal n ∷ []))
      → MatchOption found ((c : ScriptCall) → ¬ IsNamed name (words_of operand) c) (IsNamed name (words_of operand))
  call_of_number name n is found h =
      let words : words_of operand ≡ decimal n ∷ [] = number_word n is ∙ ap (λ w. w ∷ []) is.0 in
      let P : List (List ℕ) → Type 0 = λ ws. MatchOption found ((c : ScriptCall) → ¬ IsNamed name ws c) (IsNamed name ws) in
      subst P (sym words) h

same_pointwise : (xs : List ℕ) → pointwise nat_eq xs xs ≡ true
same_pointwise [] = refl
same_pointwise (x ∷ xs) = rw (eq-eqb x x refl) (same_pointwise xs)

-- words that differ there are not the same
pub apart : (word text s : List ℕ) (b : Bool) → b ≡ pointwise nat_eq word s → b ≡ false → s ≡ text → word ≡ text → ⊥
apart word text s b is differ same e =
    let t : pointwise nat_eq word s ≡ true = ap (λ (x : List ℕ). pointwise nat_eq x s) (e ∙ sym same) ∙ same_pointwise s in cc
