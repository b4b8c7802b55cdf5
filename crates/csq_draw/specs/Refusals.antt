-- The first step of a schedule that the protocol refuses.
use Rattle.std.specs.Prelude.{Bool, ◌&&◌, Option, Some, None, if◌then◌else◌}
use Rattle.irp_core.specs.declared.refusals.StepRefused.{StepRefused}
use Rattle.irp_core.specs.declared.step.Step.{Step}
use Rattle.csq_replay.specs.declared.schedule.outcome.Stop.{Stop, TheVariants.{TooLong, Malformed, Refused as RefusedStep}}
use Rattle.csq_explain.specs.WrongOrders.{goes_on}
use Rattle.csq_draw.specs.declared.marks.Legality.{Legality, TheVariants.{Refused, Later}}
use Rattle.csq_draw.specs.declared.refusals.FirstRefusal.{FirstRefusal}

-- how a step that the execution refuses stands to the protocol, after this refusal
abbrev pub legality_of : Option FirstRefusal → StepRefused → Legality
legality_of (Some before) cause = Later
legality_of None cause = Refused cause

-- the first refusal, after this one
abbrev pub first_refusal : Option FirstRefusal → FirstRefusal → FirstRefusal
first_refusal (Some first) refusal = first
first_refusal None refusal = refusal

-- the step that a drawing goes on after, if it goes on after refused ones, and why it is refused
abbrev pub noted_step : Bool → Stop → Option (Step × StepRefused)
noted_step wrong (RefusedStep s cause) = if wrong && goes_on (RefusedStep s cause) then Some (s, cause) else None
noted_step wrong TooLong = None
noted_step wrong Malformed = None
