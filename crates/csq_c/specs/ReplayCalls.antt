-- What the calls through the handle of a replay return to C.
use Rattle.std.specs.Prelude.{◌≡◌, ◌↔◌, ◌<◌, ℕ, Bool, List, Option, Some, None, IsSome, IfSome, IsTrue, Result, if◌then◌else◌}
use Rattle.std.specs.Result.{result_ok}
use Rattle.irp_core.specs.declared.ids.IrpId.{IrpId}
use Rattle.irp_core.specs.declared.refusals.StepRefused.{StepRefused}
use Rattle.irp_core.specs.declared.step.Step.{Step}
use Rattle.irp_core.specs.Runs.{IsAtRest}
use Rattle.csq_c.specs.Replays.{Follows, MakesStep, Numbered, ReplayState, run_of, size_in}
use Rattle.csq_c.specs.ReplayShapes.{IsPlacedSo, refusal_written, step_code}
use Rattle.csq_c.specs.Shapes.{set_to}
use Rattle.csq_c.specs.declared.codes.Code.{Code, TheVariants.{Done, UnknownIrp, Holding, EmptyHandle}}
use Rattle.csq_c.specs.declared.replay.shapes.{CsqPlaced.{CsqPlaced}, CsqRefusal.{CsqRefusal}, CsqStep.{CsqStep}}

-- what freeing a replay returns
abbrev pub free_replay_code : Option ReplayState → Code
free_replay_code None = EmptyHandle
free_replay_code (Some s) = Done

-- a step is made or refused, and its answer is written
pub record Steps (c : CsqStep) (step : Step) (s s' : ReplayState) (code : Code) (found found' : ℕ) (refusal refusal' : CsqRefusal) : Type 0 where
  pub answer : Result ℕ StepRefused
  pub makes : MakesStep c.number step answer s s'
  pub code_is : code ≡ step_code answer
  pub found_is : found' ≡ set_to (result_ok answer) found
  pub refusal_is : (W : List Numbered) → Follows s W → refusal' ≡ refusal_written W step.pass answer refusal

-- the code says whether all is at rest
pub record ShowsRest (s : ReplayState) (code : Code) : Type 0 where
  pub rest : Bool
  pub is_rest : (W : List Numbered) → Follows s W → (IsTrue rest ↔ IsAtRest (run_of W))
  pub code_is : code ≡ (if rest then Done else Holding)

-- whether there is such an IRP, and what stands there once its place is written
abbrev pub placed_code : Option CsqPlaced → Code
placed_code None = UnknownIrp
placed_code (Some placed) = Done

abbrev pub placed_written : Option CsqPlaced → CsqPlaced → CsqPlaced
placed_written None old = old
placed_written (Some placed) old = placed

-- where IRP n is, if there is such an IRP
pub record ShowsIrp (n : IrpId) (s : ReplayState) (code : Code) (old new : CsqPlaced) : Type 0 where
  pub answer : Option CsqPlaced
  pub known : IsSome answer ↔ (n.0 < (size_in s).irps)
  pub placed : (W : List Numbered) → Follows s W → IfSome answer (IsPlacedSo (size_in s) (run_of W) n)
  pub code_is : code ≡ placed_code answer
  pub new_is : new ≡ placed_written answer old
