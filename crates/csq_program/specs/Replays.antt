-- What schedules and scripts are answered by the program, and the sizes of a script's list.
use Rattle.std.specs.Prelude.{◌≡◌, ◌⊎◌, ℕ, Bool, true, false, IsTrue, List, replicate, Option, Result, Ok, Err, string_bytes}
use Rattle.std.specs.Global.{Global}
use Rattle.std.specs.Io.KnownBytes.{Appends, Keeps}
use Rattle.std.specs.Option.{unwrap_or}
use Rattle.irp_core.specs.Runs.{Size}
use Rattle.csq_list.specs.Listing.{IsLargeListSize, are_file_limits}
use Rattle.csq_words.specs.Queue.{Limits}
use Rattle.csq_replay.specs.declared.lines.answer.{Ended.{Ended, TheVariants.{AllHandled, Stopped}}, SimFault.{SimFault}}
use Rattle.csq_replay.specs.declared.lines.answer.SimFault.TheVariants as fault
use Rattle.csq_replay.specs.Inputs.{ReadsInput}
use Rattle.csq_explain.specs.Explaining.{IsScheduleText}
use Rattle.csq_explain.specs.ExplainingCalls.{IsScriptText}
use Rattle.csq_diagnose.specs.declared.diagnosed.Report.{Report}
use Rattle.csq_diagnose.specs.Diagnoses.{IsScriptDiagnosis}
use Rattle.csq_diagnose.specs.Drawings.{ReportsDrawingEnd}
use Rattle.csq_diagnose.specs.Reports.{IsReport}
use Rattle.csq_diagnose.specs.Schedules.{IsScheduleDiagnosis, IsWrongReport}
use Rattle.csq_program.specs.Cuts.{drawn_input}
use Rattle.csq_program.specs.Totals.{WritesRuns}
use Rattle.csq_program.specs.declared.command.Job.{Job, TheVariants.{Schedule, Draw, Script, Run}}
use Rattle.csq_program.specs.declared.program.ProgramFault.{ProgramFault, TheVariants.{Source, Replay, Write}}
use Rattle.csq_program.specs.declared.replay.ScriptLimits.{ScriptLimits}

-- the sizes of a script's list, whose limits are the number of IRPs if none is given
abbrev pub limits_or_all : ℕ → ℕ → Option ℕ → Option ℕ → ScriptLimits
limits_or_all irps files limit file_limit = record { irps = irps; files = files; limit = unwrap_or limit irps; file_limit = unwrap_or file_limit irps }

-- an answer couldn't be written
abbrev pub IsWriteFault : ProgramFault → Type 0
IsWriteFault (Write cause) = Unit {0}
IsWriteFault _ = ⊥

-- a schedule has this answer, with its claims and with sentences or without, and this diagnosis
abbrev pub IsScheduleReport : {A : Type 0} → Size → Bool → Bool → List ℕ → Report A → Type 0
IsScheduleReport size claims explains = IsReport (IsScheduleText explains size claims) (IsScheduleDiagnosis size)

-- or one as a schedule that may break the protocol
abbrev pub IsReplayReport : {A : Type 0} → Size → Bool → Bool → Bool → List ℕ → Report A → Type 0
IsReplayReport size claims explains true = IsWrongReport size
IsReplayReport size claims explains false = IsScheduleReport size claims explains

-- a script has this answer, with sentences or without, and this diagnosis
abbrev pub IsScriptReport : {A : Type 0} → Limits → Bool → List ℕ → Report A → Type 0
IsScriptReport limits explains = IsReport (IsScriptText explains limits) IsScriptDiagnosis

-- what is reported of an input up to the line that is named, if one is
abbrev pub IsCutReport : {A : Type 0} → Option ℕ → (List ℕ → Report A → Type 0) → List ℕ → Report A → Type 0
IsCutReport to is_report input = is_report (drawn_input to input)

-- of a reader and a writer whose bytes are known: an input was read, this is its report, and the report's text was written
abbrev pub AnswersInput : {A : Type 0} → (List ℕ → Report A → Type 0) → Option (List ℕ) → Option (List ℕ) → Option (List ℕ) → Option (List ℕ) → Report A → Type 0
AnswersInput is_report unread left held holds report =
    (input : List ℕ) × ReadsInput unread left input × is_report input report × Appends held holds (string_bytes report.text)

-- the exit status after a handling that ended so
abbrev pub status_of_end : Ended → ℕ
status_of_end AllHandled = 0
status_of_end Stopped = 2

-- an answer leads to the status of its end, and a fault to the program's of the same kind
abbrev pub LeadsTo : Result (Report Global) SimFault → Result ℕ ProgramFault → Type 0
LeadsTo (Ok report) (Ok status) = status ≡ status_of_end report.ended
LeadsTo (Err fault.Memory) (Err (Replay fault.Memory)) = Unit {0}
LeadsTo (Err fault.Read) (Err (Source cause)) = Unit {0}
LeadsTo (Err fault.Write) (Err (Write cause)) = Unit {0}
LeadsTo _ _ = ⊥

-- of a writer whose bytes are known: some input's report was written, and this is the status of its end
abbrev pub WritesReport : (List ℕ → Report Global → Type 0) → Option (List ℕ) → Option (List ℕ) → ℕ → Type 0
WritesReport is_report held holds status =
    (input : List ℕ) × (report : Report Global) × is_report input report × Appends held holds (string_bytes report.text) × (status ≡ status_of_end report.ended)

-- the sizes of a script's machine and list, with one limit for every file object
abbrev pub script_limits : ScriptLimits → Limits
script_limits l = record { irps = l.irps; files = l.files; passes = 1; limit = l.limit; file_limits = replicate l.files l.file_limit; first = 0 }

-- no list has these sizes
abbrev pub IsBadSize : ScriptLimits → Type 0
IsBadSize l = ¬ (IsLargeListSize l.irps l.files l.limit × IsTrue (are_file_limits l.irps l.files (replicate l.files l.file_limit)))

-- of a writer whose bytes are known: some script's report over such a list was written, and this is the status of its end; or no list has these sizes, nothing was written, and the status is 2
abbrev pub WritesScript : ScriptLimits → Bool → Option (List ℕ) → Option (List ℕ) → ℕ → Type 0
WritesScript l explains held holds status = WritesReport (IsScriptReport (script_limits l) explains) held holds status ⊎ (IsBadSize l × Keeps held holds × (status ≡ 2))

-- of a writer whose bytes are known: a job's answer was written, and this is its status
abbrev pub WritesJob : Job → Option (List ℕ) → Option (List ℕ) → ℕ → Type 0
WritesJob (Schedule source irps passes claims explain wrong) held holds = WritesReport (IsReplayReport (record { irps = irps; passes = passes; first = 0 }) claims explain wrong) held holds
WritesJob (Draw source irps passes view to) held holds = WritesReport (IsCutReport to (ReportsDrawingEnd (record { irps = irps; passes = passes; first = 0 }) view.wrong)) held holds
WritesJob (Script source irps files limit file_limit list explain) held holds = WritesScript (limits_or_all irps files limit file_limit) explain held holds
WritesJob (Run plan list totals repeat) held holds = λ status. WritesRuns plan totals repeat held holds × (status ≡ 0)
