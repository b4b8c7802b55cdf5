-- The IRPs of an execution are where its steps moved them.
use Rattle.std.proofs.Common.{◌≡◌, ℕ, ◌<◌, Bool, true, false, cond, List, [], ◌∷◌, get_or, set, replicate, Option, Some, None, refl, ap, sym, ◌∙◌, arith}
use Rattle.std.specs.Option.{option_map_or}
use Rattle.irp_core.proofs.Names.{same_id-refl, same_id-eq}
use Rattle.irp_core.specs.declared.ids.{IrpId.{IrpId}, IrpLife.{IrpLife}}
use Rattle.irp_core.specs.declared.step.Kind.{Kind}
use Rattle.irp_core.specs.Runs.{OfIrp}
use Rattle.irp_core.specs.Steps.{number, name_of, same_id}
use Rattle.csq_explain.proofs.Imports.{Size, Numbered, all_irps, irp_at, irp_moved, irp_state, irps_moved, new_irp}
use Rattle.csq_explain.specs.declared.irps.IrpState.{IrpState}
use Rattle.csq_explain.proofs.Tables.{table-replicate, table-same, get-table, set-table}

-- numbers that differ are of IRPs that differ
other_id : (n m : IrpId) → (m.0 ≡ n.0 → ⊥) → same_id n m ≡ false
other_id n m ne = go (same_id n m) refl
  where
    go : (b : Bool) → same_id n m ≡ b → b ≡ false
    go false e = refl
    go true e = absurd (ne (ap (λ (x : IrpId). x.0) (sym (same_id-eq n m e))))

-- before the first step
pub irps_none : (size : Size) (irps : List IrpState) → irps ≡ replicate size.irps new_irp → irps ≡ all_irps size []
irps_none size irps a = a ∙ sym (table-replicate (λ n. irp_state [] (record { 0 = n })) new_irp size.irps (λ k. refl))

-- after a step
module _ (size : Size) (W : List Numbered) (w : Numbered) where
  abbrev before : ℕ → IrpState
  before k = irp_state W (record { 0 = k })

  abbrev after : ℕ → IrpState
  after k = irp_state (w ∷ W) (record { 0 = k })

  -- IRP k, by the IRP that the step names
  abbrev after_named : ℕ → Option IrpLife → IrpState
  after_named k o = option_map_or (λ i. cond (same_id i.irp (record { 0 = k })) (irp_moved (before k) w) (before k)) o (before k)

  abbrev IsKnown : Option IrpLife → Type 0
  IsKnown None = Unit {0}
  IsKnown (Some i) = number i < size.irps

  named_known : (k : Kind) → OfIrp (λ i. number i < size.irps) k → IsKnown (name_of k)
  named_known k h = grind arith

  abbrev moved_named : List IrpState → Option IrpLife → List IrpState
  moved_named irps o = option_map_or (λ i. set irps (number i) (irp_moved (irp_at irps i.irp) w)) o irps

  irps_more : (o : Option IrpLife) → name_of w.step.kind ≡ o → IsKnown o → moved_named (all_irps size W) o ≡ all_irps size (w ∷ W)
  irps_more None e known = table-same before after size.irps (λ k lt. sym (ap (after_named k) e))
  irps_more (Some i) e known =
      set-table before after size.irps (number i) (irp_moved (irp_at (all_irps size W) i.irp) w) known
      (ap (λ x. irp_moved x w) (get-table before size.irps (number i) new_irp known) ∙ sym (ap (after_named (number i)) e ∙ ap (λ b. cond b (irp_moved (before (number i)) w) (before (number i))) (same_id-refl i.irp)))
      (λ j ne. sym (ap (after_named j) e ∙ ap (λ b. cond b (irp_moved (before j) w) (before j)) (other_id i.irp (record { 0 = j }) ne)))

  -- that its line names, and that was noted
  pub irps_noted : OfIrp (λ i. number i < size.irps) w.step.kind → (old new : List IrpState) → old ≡ all_irps size W → new ≡ irps_moved old w → new ≡ all_irps size (w ∷ W)
  irps_noted of old new kept noted = noted ∙ ap (λ xs. irps_moved xs w) kept ∙ irps_more (name_of w.step.kind) refl (named_known w.step.kind of)
