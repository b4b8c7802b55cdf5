-- A line names at most one step.
use Rattle.std.proofs.Common.{◌≡◌, ℕ, List, ◌∷◌, slice_index, Option, Some, None, refl, ap, sym, ◌∙◌, arith, decimal, length-append, subst}
use Rattle.csq_replay.proofs.Imports.{PassId, Kind, Arm, Test, Disarm, End, Flag, Take, Out, Done, Renew, Rearm, Step, name_of, IrpLife, pass_text, IsShort, verb_of, IsNameWord, AreNameWords, AreKindWords, IsStepLine, IsSkipped, IsWithinLine}
use Rattle.csq_replay.proofs.NameWords.{number_by_text, same_name, short_number}
use Rattle.csq_replay.proofs.StepText.{line_text}

same_passes : (p q : PassId) → IsShort p.0 → IsShort q.0 → pass_text p ≡ pass_text q → p ≡ q
same_passes p q a b e =
    let digits : decimal p.0 ≡ decimal q.0 = cc in
    let named : ℕ → PassId = λ n. record { 0 = n } in
    ap named (number_by_text p.0 q.0 a b digits)

-- the first three letters of its verb single out a kind
same_verbs : (k l : Kind) (i : IrpLife) → name_of k ≡ Some i → name_of l ≡ Some i → verb_of k ≡ verb_of l → k ≡ l
same_verbs (Arm i) (Arm j) n e f v = cc (e, f)
same_verbs (Test i) (Test j) n e f v = cc (e, f)
same_verbs (Disarm i) (Disarm j) n e f v = cc (e, f)
same_verbs (Flag i) (Flag j) n e f v = cc (e, f)
same_verbs (Take i) (Take j) n e f v = cc (e, f)
same_verbs (Out i) (Out j) n e f v = cc (e, f)
same_verbs (Done i) (Done j) n e f v = cc (e, f)
same_verbs (Renew i) (Renew j) n e f v = cc (e, f)
same_verbs (Rearm i) (Rearm j) n e f v = cc (e, f)
same_verbs End l n e f v = absurd cc
same_verbs k End n e f v = absurd cc
same_verbs k l n e f v = let first = ap (λ w. slice_index w 0) v in let second = ap (λ w. slice_index w 1) v in let third = ap (λ w. slice_index w 2) v in absurd (omega (arith, first, second, third))

-- a kind that names nothing is End
nameless : (k : Kind) → name_of k ≡ None → k ≡ End
nameless End e = refl
nameless k e = absurd cc

same_kinds : (words : List (List ℕ)) (k l : Kind) → AreKindWords words k → AreKindWords words l → k ≡ l
same_kinds words k l (names, e, is) (others, f, are) = go (name_of k) (name_of l) refl refl is are
  where
    back : names ≡ others
    back = cc (e, f)

    go : (o u : Option IrpLife) → name_of k ≡ o → name_of l ≡ u → AreNameWords names o → AreNameWords others u → k ≡ l
    go None None a b h g = nameless k a ∙ sym (nameless l b)
    go None (Some j) a b h g = absurd (cc (back, h, g.1))
    go (Some i) None a b h g = absurd (cc (back, g, h.1))
    go (Some i) (Some j) a b h g =
        let word : h.0 ≡ g.0 = cc (back, h.1, g.1) in
        let same : i ≡ j = same_name g.0 i j (subst (λ w. IsNameWord w i) word h.2) g.2 in
        same_verbs k l j (a ∙ ap Some same) b (cc (e, f))

pub same_step : (line : List ℕ) (s t : Step) → IsStepLine line s → IsStepLine line t → s ≡ t
same_step line s t (first, rest, cut, pass, kind) (word, words, parts, named, kinds) =
    let front : first ≡ word = cc (cut, parts) in
    let back : rest ≡ words = cc (cut, parts) in
    let passes : s.pass ≡ t.pass = same_passes s.pass t.pass pass.1 named.1 (sym pass.0 ∙ front ∙ named.0) in
    let both : s.kind ≡ t.kind = same_kinds words s.kind t.kind (subst (λ ws. AreKindWords ws s.kind) back kind) kinds in
    let step : PassId → Kind → Step = λ p k. record { pass = p; kind = k } in
    ap (λ p. step p s.kind) passes ∙ ap (step t.pass) both

-- a line that names a step is no comment
pub not_skipped : (line : List ℕ) (s : Step) → IsStepLine line s → ¬ IsSkipped line
not_skipped line s h skipped =
    let hash : 112 ≡ 35 = subst IsSkipped (line_text line s h).1 skipped in absurd (omega (arith, hash))

-- a line that names a step isn't too long
pub is_within : (line : List ℕ) (s : Step) → IsStepLine line s → IsWithinLine line
is_within line s h =
    let t = line_text line s h in
    let tail = t.2.1 in
    rw t.1 (omega (arith, length-append (pass_text s.pass) (32 ∷ t.0), short_number s.pass.0 h.3.1, tail))
