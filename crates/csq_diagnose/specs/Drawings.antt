-- How the drawing of a schedule ended, and why.
use Rattle.std.specs.Prelude.{◌≡◌, ℕ, Bool, false, List, string_bytes}
use Rattle.irp_core.specs.Runs.{Size}
use Rattle.csq_explain.specs.Executions.{StopsFor}
use Rattle.csq_draw.specs.Drawings.{NotesLine, new_drawn}
use Rattle.csq_diagnose.specs.declared.diagnosed.Report.{Report}
use Rattle.csq_diagnose.specs.Reports.{IsReportUntil}
use Rattle.csq_diagnose.specs.Schedules.{IsScheduleDiagnosis, ReportsReason}

-- a report says how the drawing of a schedule ended, and has the diagnosis of that, which is the schedule's if the drawing ends at the first refused step; what the picture is isn't said, only that nothing was written before the end
pub record ReportsDrawingEnd {A : Type 0} (size : Size) (wrong : Bool) (input : List ℕ) (report : Report A) : Type 0 where
  pub ends : IsReportUntil (NotesLine size wrong) (λ d. StopsFor size d.own) (λ d text. Unit {0}) ReportsReason new_drawn input report
  pub kept : wrong ≡ false → IsScheduleDiagnosis size input (string_bytes report.diagnosis) report.ended
