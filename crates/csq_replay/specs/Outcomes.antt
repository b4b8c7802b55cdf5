-- What comes of a line of a schedule.
use Rattle.std.specs.Prelude.{ℕ, ◌<◌, List, ◌∷◌, ◌++◌, length, codes}
use Rattle.irp_core.specs.declared.step.{Made.{Made}, Step.{Step}}
use Rattle.irp_core.specs.Runs.{Size, IsRun}
use Rattle.irp_core.specs.Refusals.{IsFirstCause}
use Rattle.irp_core.specs.Texts.{refusal_text}
use Rattle.csq_replay.specs.declared.schedule.outcome.{Stop.{Stop, TheVariants.{TooLong, Malformed, Refused}}, Outcome.{Outcome, TheVariants.{Skipped, Accepted, Stopped}}}
use Rattle.csq_replay.specs.Lines.{IsWithinLine, IsSkipped}
use Rattle.csq_replay.specs.StepLine.{IsStepLine}

-- who made a step, and of which kind it is
abbrev pub step_of : Made → Step
step_of m = record { pass = m.pass; kind = m.kind }

-- after the run E this comes of the line: it is skipped, its step makes a run, or it ends the handling
abbrev pub ComesTo : Size → List Made → List ℕ → Outcome → Type 0
ComesTo size E line Skipped = IsWithinLine line × IsSkipped line
ComesTo size E line (Accepted m) = IsStepLine line (step_of m) × IsRun size (m ∷ E)
ComesTo size E line (Stopped TooLong) = 64 < length line
ComesTo size E line (Stopped Malformed) = IsWithinLine line × (¬ IsSkipped line) × ((s : Step) → ¬ IsStepLine line s)
ComesTo size E line (Stopped (Refused s cause)) = IsStepLine line s × IsFirstCause size E s cause

-- the run that a line leads to
abbrev pub run_after : List Made → Outcome → List Made
run_after E (Accepted m) = m ∷ E
run_after E _ = E

-- why a line ends the handling
abbrev pub stop_text : Stop → List ℕ
stop_text TooLong = codes "too long"
stop_text Malformed = codes "malformed"
stop_text (Refused s cause) = codes "refused " ++ refusal_text cause
