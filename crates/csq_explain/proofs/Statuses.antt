-- The status with which a step completed its IRP.
use Rattle.std.proofs.Common.{◌≡◌, ℕ, true, List, ◌∷◌, Option, Some, refl, ap, sym, ◌∙◌, subst}
use Rattle.irp_core.specs.declared.ids.IrpLife.{IrpLife}
use Rattle.irp_core.specs.declared.ids.PassId.{PassId}
use Rattle.irp_core.specs.declared.standing.IrpPlace.{IrpPlace}
use Rattle.irp_core.specs.declared.standing.IrpPlace.TheVariants.{Completed}
use Rattle.irp_core.specs.declared.status.NtStatus.{NtStatus}
use Rattle.irp_core.specs.declared.step.Kind.{Kind}
use Rattle.irp_core.specs.declared.step.Kind.TheVariants.{Done}
use Rattle.csq_explain.proofs.Imports.{Made, Size, IsRun, named, same_irp-refl, same_pass-refl, status_of_place, IsStatusAfter, status_at}
use Rattle.irp_core.specs.Completion.{completed_by, removed, status_due, IsPlace}
use Rattle.irp_core.specs.Lives.{present}
use Rattle.irp_core.proofs.Growing.{run_less}
use Rattle.irp_core.proofs.Lives.{held_present, life_same}
use Rattle.csq_replay.proofs.OneAnswer.{one_place}

module _ (size : Size) (p : PassId) (v : ℕ) (E : List Made) where
  abbrev step : Kind → Made
  step k = record { pass = p; kind = k; found = v }

  -- where an IRP is that was just completed
  done_place : (i : IrpLife) → IsRun size (step (Done i) ∷ E) → (place : IrpPlace) → IsPlace (step (Done i) ∷ E) (present size.first (step (Done i) ∷ E) i.irp) place
      → status_of_place place ≡ Some (status_due (removed E i))
  done_place i r place is =
      let now : i ≡ present size.first (step (Done i) ∷ E) i.irp = named i _ refl (held_present size E (run_less size (step (Done i)) E r) i p r.owned.0 ∙ sym (life_same size.first (step (Done i)) E i.irp refl)) in
      let P : IrpLife → Type 0 = λ x. IsPlace (step (Done i) ∷ E) x place in
      let mine : completed_by (step (Done i) ∷ E) p i ≡ true = rw (same_irp-refl i, same_pass-refl p) refl in
      ap status_of_place (one_place size (step (Done i) ∷ E) r i place (Completed (status_due (removed (step (Done i) ∷ E) i)) p) (subst P (sym now) is) (mine, refl))

  pub status_is : (k : Kind) → IsRun size (step k ∷ E) → (status : Option NtStatus) → IsStatusAfter size (step k ∷ E) k status → status ≡ status_at E k
  status_is (Done i) r status (place, is, e) = e ∙ done_place i r place is
  status_is _ r status h = h
