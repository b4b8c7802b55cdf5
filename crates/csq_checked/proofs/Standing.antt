-- The matches after an IRP, as a look goes on from one to the next.
use Rattle.std.proofs.Common.{◌≡◌, ◌≤◌, Bool, true, false, ◌||◌, List, [], ◌∷◌, ◌++◌, length, length-append, Option, Some, None, refl, sym, ap, ◌∙◌, subst, arith}
use Rattle.csq_checked.proofs.Imports.{IrpId, Entry, Peek, is_listed, matches, first_match, rest_after, is_distinct, IsFound, found, found-rest, rest_after-ends, matching}
use Rattle.irp_core.specs.Steps.{same_id}

-- where no match comes first, there is none
pub none_matches : (k : Peek) (es : List Entry) → first_match k es ≡ None → matching k es ≡ []
none_matches k [] h = refl
none_matches k (e ∷ es) h = by_case (matches k e.file) refl (none_matches k es)
  where
    by_case : (b : Bool) → matches k e.file ≡ b → (first_match k es ≡ None → matching k es ≡ []) → matching k (e ∷ es) ≡ []
    by_case true m more = absurd (let is : Some e.irp ≡ None = sym (rw m refl) ∙ h in cc)
    by_case false m more = rw m (more (rw m at h))

matching_append : (k : Peek) (xs ys : List Entry) → matching k (xs ++ ys) ≡ matching k xs ++ matching k ys
matching_append k [] ys = refl
matching_append k (x ∷ xs) ys = by_case (matches k x.file) refl (matching_append k xs ys)
  where
    by_case : (b : Bool) → matches k x.file ≡ b → matching k (xs ++ ys) ≡ matching k xs ++ matching k ys → matching k (x ∷ xs ++ ys) ≡ matching k (x ∷ xs) ++ matching k ys
    by_case true m more = rw m (ap (λ zs. x ∷ zs) more)
    by_case false m more = rw m more

module _ (k : Peek) (after : Option IrpId) (es : List Entry) (distinct : is_distinct es ≡ true) (n : IrpId) (h : first_match k (rest_after after es) ≡ Some n) where
  abbrev it : IsFound k n (rest_after after es)
  it = found k n (rest_after after es) h

  -- the matches are the first one and those after it
  pub matches_go_on : matching k (rest_after after es) ≡ it.entry ∷ matching k (rest_after (Some n) es)
  matches_go_on =
      ap (matching k) it.splits
      ∙ (matching_append k it.before (it.entry ∷ it.later)
      ∙ (ap (λ xs. xs ++ matching k (it.entry ∷ it.later)) (none_matches k it.before it.none_before)
      ∙ (rw it.matching (ap (λ xs. it.entry ∷ matching k xs) (sym (found-rest k n after es h distinct))))))

  -- so another IRP is among them where it is among those after the first
  pub goes_on : (i : IrpId) → same_id n i ≡ false → is_listed (matching k (rest_after after es)) i ≡ is_listed (matching k (rest_after (Some n) es)) i
  goes_on i other =
      ap (λ xs. is_listed xs i) matches_go_on ∙ ap (λ b. b || is_listed (matching k (rest_after (Some n) es)) i) (subst (λ j. same_id j i ≡ false) (sym it.is) other)

  -- and the first one is
  pub is_first : (i : IrpId) → same_id n i ≡ true → is_listed (matching k (rest_after after es)) i ≡ true
  is_first i same =
      ap (λ xs. is_listed xs i) matches_go_on ∙ ap (λ b. b || is_listed (matching k (rest_after (Some n) es)) i) (subst (λ j. same_id j i ≡ true) (sym it.is) same)

-- nothing stands after an IRP where no match comes next, or where all was looked at
pub none_stands : (k : Peek) (i : IrpId) (es : List Entry) → first_match k es ≡ None → is_listed (matching k es) i ≡ false
none_stands k i es h = ap (λ xs. is_listed xs i) (none_matches k es h)

pub empty_stands : (k : Peek) (i : IrpId) (es : List Entry) → length es ≤ 0 → is_listed (matching k es) i ≡ false
empty_stands k i [] h = refl
empty_stands k i (e ∷ es) h = absurd (omega arith)

-- what stands after an IRP isn't longer than the list
pub rest_within : (after : Option IrpId) (es : List Entry) → length (rest_after after es) ≤ length es
rest_within after es = let (before, e) = rest_after-ends after es in omega (arith, ap length e, length-append before (rest_after after es))
