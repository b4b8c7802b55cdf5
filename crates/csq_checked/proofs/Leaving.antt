-- What a cleanup left, as a look goes on from one IRP of its file object to the next.
use Rattle.std.proofs.Common.{◌≡◌, ℕ, Bool, true, false, not, ◌&&◌, List, [], ◌∷◌, Option, Some, None, refl, sym, ap, ◌∙◌, subst}
use Rattle.std.specs.List.{find}
use Rattle.std.specs.Option.{option_map}
use Rattle.csq_checked.proofs.Imports.{IrpId, Entry, Peek, first_match, matches, matching, rest_after, is_distinct, IsFound, found, is_excused}
use Rattle.csq_checked.proofs.Standing.{matches_go_on, none_matches}

module _ (excused : List ℕ) (k : Peek) where
  -- the first match that isn't excused: of the IRPs of a file object this is `first_left`
  abbrev left_in : List Entry → Option IrpId
  left_in es = option_map (λ (e : Entry). e.irp) (find (λ (e : Entry). matches k e.file && not (is_excused excused e.irp)) es)

  -- the first entry that isn't excused
  abbrev first_in : List Entry → Option IrpId
  first_in es = option_map (λ (e : Entry). e.irp) (find (λ (e : Entry). not (is_excused excused e.irp)) es)

  among_matches : (es : List Entry) → left_in es ≡ first_in (matching k es)
  among_matches [] = refl
  among_matches (e ∷ es) = by_case (matches k e.file) refl (is_excused excused e.irp) refl (among_matches es)
    where
      by_case : (a : Bool) → matches k e.file ≡ a → (b : Bool) → is_excused excused e.irp ≡ b → left_in es ≡ first_in (matching k es) → left_in (e ∷ es) ≡ first_in (matching k (e ∷ es))
      by_case true m true x more = rw m (rw x more)
      by_case true m false x more = rw m (rw x refl)
      by_case false m b x more = rw m more

  pub nothing_left : (es : List Entry) → first_match k es ≡ None → left_in es ≡ None
  nothing_left es h = among_matches es ∙ ap first_in (none_matches k es h)

  module _ (after : Option IrpId) (es : List Entry) (distinct : is_distinct es ≡ true) (n : IrpId) (h : first_match k (rest_after after es) ≡ Some n) where
    abbrev it : IsFound k n (rest_after after es)
    it = found k n (rest_after after es) h

    from_it : left_in (rest_after after es) ≡ first_in (it.entry ∷ matching k (rest_after (Some n) es))
    from_it = among_matches (rest_after after es) ∙ ap first_in (matches_go_on k after es distinct n h)

    -- the next match is left unless it is excused
    pub left_here : is_excused excused n ≡ false → left_in (rest_after after es) ≡ Some n
    left_here off =
        let here : is_excused excused it.entry.irp ≡ false = subst (λ i. is_excused excused i ≡ false) (sym it.is) off in
        from_it ∙ rw here (ap (λ i. Some i) it.is)

    -- and the look goes on after it
    pub goes_on : is_excused excused n ≡ true → left_in (rest_after after es) ≡ left_in (rest_after (Some n) es)
    goes_on on =
        let here : is_excused excused it.entry.irp ≡ true = subst (λ i. is_excused excused i ≡ true) (sym it.is) on in
        from_it ∙ rw here (sym (among_matches (rest_after (Some n) es)))
