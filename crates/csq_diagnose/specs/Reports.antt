-- Answers to inputs, each with its diagnosis.
use Rattle.std.specs.Prelude.{◌≡◌, ℕ, List, [], codes, Option, string_bytes}
use Rattle.csq_replay.specs.declared.lines.answer.Ended.{Ended}
use Rattle.csq_replay.specs.declared.lines.Ending.{Ending, TheVariants.{AllHandled, TooLong, StoppedAt}}
use Rattle.csq_replay.specs.Lines.{IsAnswerUntil, ended_of}
use Rattle.csq_diagnose.specs.declared.diagnosed.Report.{Report}

-- a report has this answer to the input, and this diagnosis of it
abbrev pub IsReport : {A : Type 0} → (List ℕ → List ℕ → Ended → Type 0) → (List ℕ → List ℕ → Ended → Type 0) → List ℕ → Report A → Type 0
IsReport is_answer is_diagnosis input report = is_answer input (string_bytes report.text) report.ended × is_diagnosis input (string_bytes report.diagnosis) report.ended

-- an end is diagnosed so: by the line that it came with, as `reports` says
abbrev pub IsEndDiagnosis : {W : Type 0} → (W → ℕ → List ℕ → List ℕ → Type 0) → Ending W → List ℕ → Type 0
IsEndDiagnosis reports AllHandled text = text ≡ []
IsEndDiagnosis reports TooLong text = text ≡ codes "input too long\n"
IsEndDiagnosis reports (StoppedAt line why) text = reports why line.number line.bytes.now text

-- after s a report has the answer to the input, and the diagnosis of its end
pub record IsReportUntil {S W A : Type 0} (answers : S → ℕ → List ℕ → List ℕ → Option S → Type 0) (stops : S → ℕ → List ℕ → W → Type 0) (closes : S → List ℕ → Type 0)
    (reports : W → ℕ → List ℕ → List ℕ → Type 0) (s : S) (input : List ℕ) (report : Report A) : Type 0 where
  pub end : Ending W
  pub answer : IsAnswerUntil answers stops closes s input (string_bytes report.text) end
  pub diagnosis : IsEndDiagnosis reports end (string_bytes report.diagnosis)
  pub ended : report.ended ≡ ended_of end
