-- An arrow runs from the step that set the word.
use Rattle.std.proofs.Common.{◌≡◌, ℕ, ◌==◌, ◌<◌, Bool, true, false, cond, List, [], ◌∷◌, ◌++◌, length, Option, Some, None, refl, ap, ◌∙◌, arith}
use Rattle.csq_draw.proofs.Imports.{IrpId, Kind, Size, IsRun, OfIrp, number, Numbered, run_of, all_passes, is_of_irp, IrpNow, Spot, irp_after, irp_at, irp_named, irps_of}
use Rattle.irp_core.proofs.Growing.{run_less}
use Rattle.irp_core.specs.declared.step.Kind.TheVariants.{Arm, Test, Disarm, End, Flag, Take, Out, Done, Renew, Rearm}
use Rattle.csq_draw.specs.declared.arrows.Arrow.{Arrow}
use Rattle.csq_draw.specs.Arrows.{found_in}
use Rattle.csq_draw.specs.Irps.{flag_after, routine_after, spot_of}
use Rattle.csq_draw.specs.Laws.{added, arrow_of, arrow_to, sets_flag, sets_routine, set_in, setter, writes_routine, EachArrowIsFromTheWrite}
use Rattle.csq_draw.specs.Rows.{row_of}
use Rattle.csq_draw.specs.Words.{changes_flag}
use Rattle.csq_draw.proofs.Known.{at_next, none_yet}
use Rattle.csq_draw.proofs.PictureLaws.{drawn_arrows}
use Rattle.csq_explain.specs.declared.passes.PassNow.{PassNow}

-- a step keeps who set a word, or changes it
flag_steps : (k : Kind) (found : ℕ) (spot : Spot) (before : Option Spot) → flag_after k found spot before ≡ cond (changes_flag k found) (cond (sets_flag k) (Some spot) None) before
flag_steps k found spot before = grind arith

routine_steps : (k : Kind) (found : ℕ) (spot : Spot) (before : Option Spot) → routine_after k found spot before ≡ cond (writes_routine k found) (cond (sets_routine k) (Some spot) None) before
routine_steps k found spot before = grind arith

module _ (size : Size) where
  -- who set the Cancel flag of IRP n
  flag_is : (W : List Numbered) (n : IrpId) → n.0 < size.irps → (irp_at (irps_of size W) n).flag ≡ set_in changes_flag sets_flag n W
  flag_is [] n lt = ap (λ (x : IrpNow). x.flag) (none_yet size n lt)
  flag_is (w ∷ W) n lt = ap (λ (x : IrpNow). x.flag) (at_next size w W n lt) ∙ go (is_of_irp n w.step.kind) refl (flag_is W n lt)
    where
      go : (b : Bool) → is_of_irp n w.step.kind ≡ b → (irp_at (irps_of size W) n).flag ≡ set_in changes_flag sets_flag n W → (cond b (irp_after (irp_at (irps_of size W) n) (row_of size w W)) (irp_at (irps_of size W) n)).flag ≡ set_in changes_flag sets_flag n (w ∷ W)
      go true e before =
          flag_steps w.step.kind w.step.found (spot_of (row_of size w W)) (irp_at (irps_of size W) n).flag
          ∙ ap (λ x. cond (changes_flag w.step.kind w.step.found) (cond (sets_flag w.step.kind) (Some (spot_of (row_of size w W))) None) x) before ∙ rw e refl
      go false e before = before ∙ rw e refl

  -- and its cancel routine
  routine_is : (W : List Numbered) (n : IrpId) → n.0 < size.irps → (irp_at (irps_of size W) n).routine ≡ set_in writes_routine sets_routine n W
  routine_is [] n lt = ap (λ (x : IrpNow). x.routine) (none_yet size n lt)
  routine_is (w ∷ W) n lt = ap (λ (x : IrpNow). x.routine) (at_next size w W n lt) ∙ go (is_of_irp n w.step.kind) refl (routine_is W n lt)
    where
      go : (b : Bool) → is_of_irp n w.step.kind ≡ b → (irp_at (irps_of size W) n).routine ≡ set_in writes_routine sets_routine n W → (cond b (irp_after (irp_at (irps_of size W) n) (row_of size w W)) (irp_at (irps_of size W) n)).routine ≡ set_in writes_routine sets_routine n (w ∷ W)
      go true e before =
          routine_steps w.step.kind w.step.found (spot_of (row_of size w W)) (irp_at (irps_of size W) n).routine
          ∙ ap (λ x. cond (writes_routine w.step.kind w.step.found) (cond (sets_routine w.step.kind) (Some (spot_of (row_of size w W))) None) x) before ∙ rw e refl
      go false e before = before ∙ rw e refl

  -- who set what a step of a known IRP found
  setter_is : (k : Kind) (found : ℕ) (W : List Numbered) → OfIrp (λ i. number i < size.irps) k → found_in (irp_named (irps_of size W) k) k found ≡ setter k found W
  setter_is (Test i) found W lt = ap (λ x. cond (found == 1) x None) (flag_is W i.irp lt)
  setter_is (Flag i) found W lt = ap (λ x. cond (found == 1) x None) (flag_is W i.irp lt)
  setter_is (Disarm i) found W lt = ap (λ x. cond (found == 1) x None) (routine_is W i.irp lt)
  setter_is (Take i) found W lt = ap (λ x. cond (found == 1) x None) (routine_is W i.irp lt)
  setter_is (Arm i) found W lt = refl
  setter_is End found W lt = refl
  setter_is (Out i) found W lt = refl
  setter_is (Done i) found W lt = refl
  setter_is (Renew i) found W lt = refl
  setter_is (Rearm i) found W lt = refl

  -- of a run, what is drawn is from there
  module _ (passes : List PassNow) where
    abbrev drawn_of : Numbered → List Numbered → List Arrow
    drawn_of w V = arrow_to passes w.step.pass (length V) w.line (found_in (irp_named (irps_of size V) w.step.kind) w.step.kind w.step.found)

    all_same : (W : List Numbered) → IsRun size (run_of W) → added drawn_of W ≡ added (arrow_of passes) W
    all_same [] r = refl
    all_same (w ∷ W) r =
        ap (λ t. t ++ drawn_of w W) (all_same W (run_less size w.step (run_of W) r))
        ∙ ap (λ spot. added (arrow_of passes) W ++ arrow_to passes w.step.pass (length W) w.line spot) (setter_is w.step.kind w.step.found W r.known.0.irp)

pub each_arrow : (size : Size) (W : List Numbered) → EachArrowIsFromTheWrite size W
each_arrow size W r =
    let same = all_same size (all_passes size W) W r in
    let drawn = drawn_arrows size W in
    record { stopped = λ n stop. drawn.stopped n stop ∙ ap (λ t. t ++ []) same; closed = λ reported at_rest. drawn.closed reported at_rest ∙ same }
