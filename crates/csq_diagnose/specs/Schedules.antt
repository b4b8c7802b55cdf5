-- Which line ends a schedule, and why.
use Rattle.std.specs.Prelude.{◌≡◌, ℕ, List, [], Option}
use Rattle.irp_core.specs.Runs.{Size}
use Rattle.csq_replay.specs.declared.lines.answer.Ended.{Ended}
use Rattle.csq_replay.specs.declared.schedule.outcome.{Outcome.{Outcome, TheVariants.{Stopped}}, Stop.{Stop, TheVariants.{TooLong, Malformed as NoStep, Refused}}}
use Rattle.csq_replay.specs.Lines.{IsAnswer}
use Rattle.irp_core.specs.declared.step.Step.{Step}
use Rattle.csq_replay.specs.Outcomes.{ComesTo}
use Rattle.csq_replay.specs.StepLine.{IsStepLine}
use Rattle.csq_replay.specs.Schedule.{Numbered, run_of, grown}
use Rattle.csq_explain.specs.declared.reasons.Reason.{Reason}
use Rattle.csq_explain.specs.Executions.{StopsFor}
use Rattle.csq_explain.specs.WrongOrders.{WrongLine, WrongCloses, new_wrong}
use Rattle.csq_diagnose.specs.declared.diagnosed.Report.{Report}
use Rattle.csq_diagnose.specs.Reports.{IsReportUntil}
use Rattle.csq_diagnose.specs.declared.grammar.Grammar.TheVariants.{Schedule}
use Rattle.csq_diagnose.specs.declared.malformed.Malformed.{Malformed}
use Rattle.csq_diagnose.specs.Malforms.{IsMalformed}
use Rattle.csq_diagnose.specs.Columns.{IsAt, column_after, words_before}

-- the nth line ends the handling so, and is reported at the column that is at fault
abbrev pub IsReportedStop : ℕ → List ℕ → Stop → List ℕ → Type 0
IsReportedStop n line TooLong text = IsAt n 65 text
IsReportedStop n line NoStep text = (fault : Malformed) × IsMalformed Schedule line fault × IsAt n fault.column text
IsReportedStop n line (Refused s cause) text = IsAt n (column_after line (words_before cause)) text

-- so it is reported, if a line that is malformed names no step
abbrev pub ReportsReason : Reason → ℕ → List ℕ → List ℕ → Type 0
ReportsReason reason n line text = (reason.stop ≡ NoStep → (s : Step) → ¬ IsStepLine line s) → IsReportedStop n line reason.stop text

-- this is reported for the nth line, of which this came
abbrev pub IsReportedOutcome : ℕ → List ℕ → Outcome → List ℕ → Type 0
IsReportedOutcome n line (Stopped stop) text = IsReportedStop n line stop text
IsReportedOutcome n line _ text = text ≡ []

-- after the steps W the nth line is reported so, by what comes of it, which W grows by
abbrev pub DiagnosesStep : Size → List Numbered → ℕ → List ℕ → List ℕ → Option (List Numbered) → Type 0
DiagnosesStep size W n line text more = (comes : Outcome) × ComesTo size (run_of W) line comes × IsReportedOutcome n line comes text × (more ≡ grown W n comes)

-- a schedule is diagnosed so: by the line that ends it, if there is one
abbrev pub IsScheduleDiagnosis : Size → List ℕ → List ℕ → Ended → Type 0
IsScheduleDiagnosis size = IsAnswer (DiagnosesStep size) (λ W text. text ≡ []) []

-- a schedule that may break the protocol is followed so, with its diagnosis
abbrev pub IsWrongReport : {A : Type 0} → Size → List ℕ → Report A → Type 0
IsWrongReport size = IsReportUntil (WrongLine size) (λ d. StopsFor size d.own) (WrongCloses size) ReportsReason new_wrong
