-- The words of a kind of step.
use Rattle.std.proofs.Common.{length, ◌≡◌, ℕ, List, [], ◌∷◌, Option, Some, None, refl, ap, sym, ◌∙◌, subst, arith}
use Rattle.csq_replay.proofs.Imports.{◌==◌, MatchOption, length-slice_split, Kind, Step, name_of, IrpLife, words_of, verb_of, IsNameWord, AreNameWords, AreKindWords, IsStepLine}
use Rattle.csq_replay.proofs.NameWords.{one_piece, word_alone, same_name}

module _ (text verb operand : List ℕ) (cut : words_of text ≡ verb ∷ words_of operand) where
  -- the second word, where a kind is named, names what it is of
  operand_named : (k : Kind) → AreKindWords (words_of text) k → (i : IrpLife) × (name_of k ≡ Some i) × IsNameWord operand i
  operand_named k h = go (name_of k) refl h.2
    where
      rest : words_of operand ≡ h.0
      rest = cc (cut, h.1)

      go : (o : Option IrpLife) → name_of k ≡ o → AreNameWords h.0 o → (i : IrpLife) × (name_of k ≡ Some i) × IsNameWord operand i
      go None e names = absurd (let nothing = rest ∙ names in omega (arith, ap length nothing, length-slice_split (λ b. b == 32) operand))
      go (Some i) e names = (i, e, subst (λ w. IsNameWord w i) (sym (one_piece 32 operand names.0 (rest ∙ names.1))) names.2)

  -- where the second word names nothing, no kind is named
  pub no_name : ((i : IrpLife) → ¬ IsNameWord operand i) → (k : Kind) → ¬ AreKindWords (words_of text) k
  no_name none k h = let n = operand_named k h in none n.0 n.2

  -- where it names one, the verb decides
  pub verb_decides : (i : IrpLife) → IsNameWord operand i → (found : Option Kind)
      → MatchOption found ((k : Kind) → ¬ ((verb_of k ≡ verb) × (name_of k ≡ Some i))) (λ k. (verb_of k ≡ verb) × (name_of k ≡ Some i))
      → MatchOption found ((k : Kind) → ¬ AreKindWords (words_of text) k) (AreKindWords (words_of text))
  verb_decides i is None h = λ k words.
      let n = operand_named k words in
      h k (cc (words.1, cut), n.1 ∙ ap Some (same_name operand n.0 i n.2 is))
  verb_decides i is (Some k) h = (operand ∷ [], cut ∙ ap (λ w. w ∷ words_of operand) (sym h.0) ∙ ap (λ ws. verb_of k ∷ ws) (word_alone operand i is), names_it (name_of k) h.1)
    where
      names_it : (o : Option IrpLife) → o ≡ Some i → AreNameWords (operand ∷ []) o
      names_it None e = absurd cc
      names_it (Some j) e = (operand, refl, let same : i ≡ j = cc e in subst (λ x. IsNameWord operand x) same is)

-- where the words after the first name no kind, the line names no step
pub no_kind : (line pass rest : List ℕ) → words_of line ≡ pass ∷ words_of rest → ((k : Kind) → ¬ AreKindWords (words_of rest) k) → (s : Step) → ¬ IsStepLine line s
no_kind line pass rest cut none s (first, words, parts, named, kind) =
    let back : words ≡ words_of rest = cc (cut, parts) in none s.kind (subst (λ ws. AreKindWords ws s.kind) back kind)
