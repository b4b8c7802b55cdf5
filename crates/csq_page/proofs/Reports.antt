-- What a report tells.
use Rattle.std.proofs.Common.{◌≡◌, ℕ, Bool, List, Option, string_bytes}
use Rattle.irp_core.specs.Runs.{Size}
use Rattle.csq_diagnose.specs.declared.diagnosed.Report.{Report}
use Rattle.csq_diagnose.specs.Drawings.{ReportsDrawingEnd}
use Rattle.csq_diagnose.specs.Reports.{IsReportUntil}
use Rattle.csq_page.specs.Answers.{AnswersUntil, TellsDrawing}

-- its answer and its diagnosis
pub until_told : {S W A : Type 0} (answers : S → ℕ → List ℕ → List ℕ → Option S → Type 0) (stops : S → ℕ → List ℕ → W → Type 0) (closes : S → List ℕ → Type 0) (reports : W → ℕ → List ℕ → List ℕ → Type 0) (s : S) (input : List ℕ) (report : Report A)
    → IsReportUntil answers stops closes reports s input report → AnswersUntil answers stops closes reports s input (string_bytes report.text) (string_bytes report.diagnosis) report.ended
until_told answers stops closes reports s input report is = record { end = is.end; answered = is.answer; diagnosed = is.diagnosis; ends = is.ended }

-- the same of a drawing
pub drawing_told : {A : Type 0} (size : Size) (wrong : Bool) (input : List ℕ) (report : Report A) → ReportsDrawingEnd size wrong input report → TellsDrawing size wrong input (string_bytes report.text) (string_bytes report.diagnosis) report.ended
drawing_told size wrong input report is = (until_told _ _ _ _ _ input report is.ends, is.kept)
