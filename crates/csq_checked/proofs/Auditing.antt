-- Peeks that go from the first IRP to the last, and all agree, give the list.
use Rattle.std.proofs.Common.{◌≡◌, ◌↔◌, true, List, [], ◌∷◌, ◌++◌, map, Option, Some, None, refl, sym, ap, ◌∙◌, subst}
use Rattle.csq_checked.proofs.Imports.{IrpId, Entry, first_match, rest_after, is_distinct, IsFound, found, found-rest, Agrees}
use Rattle.csq_list.specs.declared.entry.Peek.TheVariants.{Any}
use Rattle.csq_checked.specs.Audits.{AllAgree}
use Rattle.csq_checked.specs.Peeks.{peek_verdict}
use Rattle.csq_checked.proofs.Judging.{agrees_exactly}

abbrev numbers : List Entry → List IrpId
numbers es = map (λ (e : Entry). e.irp) es

module _ (es : List Entry) (distinct : is_distinct es ≡ true) where
  -- an answer agrees exactly where it is the first that stands there
  answers : (after : Option IrpId) (answer : Option IrpId) → (peek_verdict es after Any answer ≡ Agrees) ↔ (answer ≡ first_match Any (rest_after after es))
  answers after answer = agrees_exactly es Any (first_match Any (rest_after after es)) answer

  -- what stands after the first IRP of a rest is what the rest goes on with
  goes_on : (after : Option IrpId) (e : Entry) (later : List Entry) → rest_after after es ≡ e ∷ later → rest_after (Some e.irp) es ≡ later
  goes_on after e later h =
      let first : first_match Any (rest_after after es) ≡ Some e.irp = ap (first_match Any) h in
      let it : IsFound Any e.irp (rest_after after es) = found Any e.irp (rest_after after es) first in
      found-rest Any e.irp after es first distinct ∙ same it.before it.entry it.later (sym it.splits ∙ h) it.none_before
    where
      same : (before : List Entry) (x : Entry) (rest : List Entry) → before ++ x ∷ rest ≡ e ∷ later → first_match Any before ≡ None → rest ≡ later
      same [] x rest s n = cc
      same (y ∷ before) x rest s n = absurd (cc)

  pub gives : (rest : List Entry) (after : Option IrpId) → rest_after after es ≡ rest → (is : List IrpId) → AllAgree es after is ↔ (is ≡ numbers rest)
  gives [] after h [] = (λ a. refl, λ e. (answers after None).1 (sym (ap (first_match Any) h)))
  gives [] after h (i ∷ is) = (λ a. absurd (let none : Some i ≡ None = (answers after (Some i)).0 a.0 ∙ ap (first_match Any) h in cc), λ e. absurd (cc))
  gives (x ∷ rest) after h [] = (λ a. absurd (let some : None ≡ Some x.irp = (answers after None).0 a ∙ ap (first_match Any) h in cc), λ e. absurd (cc))
  gives (x ∷ rest) after h (i ∷ is) =
      let on = goes_on after x rest h in
      let more = gives rest (Some x.irp) on is in (
        λ a.
            let here : Some i ≡ Some x.irp = (answers after (Some i)).0 a.0 ∙ ap (first_match Any) h in
            let is_x : i ≡ x.irp = cc in
            let others : is ≡ numbers rest = more.0 (subst (λ j. AllAgree es (Some j) is) is_x a.1) in
            cc,
        λ e.
            let is_x : i ≡ x.irp = cc in
            let others : is ≡ numbers rest = cc in
            ((answers after (Some i)).1 (ap (λ j. Some j) is_x ∙ sym (ap (first_match Any) h)), subst (λ j. AllAgree es (Some j) is) (sym is_x) (more.1 others)),
      )
