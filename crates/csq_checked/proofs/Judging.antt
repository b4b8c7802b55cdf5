-- A verdict agrees exactly where the answer is the list's.
use Rattle.std.proofs.Common.{◌≡◌, ◌↔◌, Bool, true, false, true≢false, List, Option, Some, None, refl, sym, ap, ◌∙◌}
use Rattle.csq_checked.proofs.Imports.{IrpId, Entry, Peek, is_listed, rest_after, matching, Agrees}
use Rattle.irp_core.specs.Steps.{same_id}
use Rattle.irp_core.proofs.Names.{same_id-eq, same_id-refl}
use Rattle.csq_checked.specs.Peeks.{irp_verdict, stray_verdict, verdict_beside}

stray_never_agrees : (es : List Entry) (k : Peek) (i : IrpId) → stray_verdict es k i ≡ Agrees → ⊥
stray_never_agrees es k i h = by_case (is_listed (matching k es) i) refl (is_listed es i) refl
  where
    by_case : (a : Bool) → is_listed (matching k es) i ≡ a → (b : Bool) → is_listed es i ≡ b → ⊥
    by_case true m b n = let e = rw m at h in cc
    by_case false m true n = let e = rw n at (rw m at h) in cc
    by_case false m false n = let e = rw n at (rw m at h) in cc

other_never_agrees : (es : List Entry) (k : Peek) (first i : IrpId) → same_id first i ≡ false → irp_verdict es k first i ≡ Agrees → ⊥
other_never_agrees es k first i other h = by_case (is_listed (matching k (rest_after (Some first) es)) i) refl
  where
    by_case : (b : Bool) → is_listed (matching k (rest_after (Some first) es)) i ≡ b → ⊥
    by_case true m = let e = rw m at (rw other at h) in cc
    by_case false m = stray_never_agrees es k i (rw m at (rw other at h))

pub agrees_exactly : (es : List Entry) (k : Peek) (first answer : Option IrpId) → (verdict_beside es k first answer ≡ Agrees) ↔ (answer ≡ first)
agrees_exactly es k None None = (λ h. refl, λ e. refl)
agrees_exactly es k (Some first) None = (λ h. absurd (cc), λ e. absurd (cc))
agrees_exactly es k None (Some i) = (λ h. absurd (stray_never_agrees es k i h), λ e. absurd (cc))
agrees_exactly es k (Some first) (Some i) = by_case (same_id first i) refl
  where
    by_case : (b : Bool) → same_id first i ≡ b → (irp_verdict es k first i ≡ Agrees) ↔ (Some i ≡ Some first)
    by_case true m = (λ h. ap Some (sym (same_id-eq first i m)), λ e. rw m refl)
    by_case false m = (λ h. absurd (other_never_agrees es k first i m h), λ e. absurd (let same : i ≡ first = cc in true≢false (sym (same_id-refl first) ∙ (ap (same_id first) (sym same) ∙ m))))
