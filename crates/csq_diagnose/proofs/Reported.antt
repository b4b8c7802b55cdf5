-- Schedules and scripts that were reported have their diagnoses.
use Rattle.std.proofs.Common.{◌≡◌, ℕ, Bool, true, false, List, [], Some, None, refl, subst}
use Rattle.irp_core.specs.Runs.{Size}
use Rattle.csq_words.specs.Queue.{Limits}
use Rattle.csq_replay.specs.declared.lines.answer.Ended.{Ended}
use Rattle.csq_replay.specs.declared.schedule.outcome.Outcome.{Outcome}
use Rattle.csq_replay.specs.declared.schedule.outcome.Outcome.TheVariants as outcome
use Rattle.csq_replay.specs.declared.schedule.outcome.Stop.{Stop}
use Rattle.csq_replay.specs.declared.script.outcome.CallOutcome.{CallOutcome}
use Rattle.csq_replay.specs.declared.script.outcome.CallOutcome.TheVariants as call
use Rattle.csq_replay.specs.declared.script.outcome.CallStop.{CallStop}
use Rattle.csq_replay.specs.declared.script.outcome.CallStop.TheVariants.{TooLong, Malformed}
use Rattle.csq_replay.specs.Calls.{Script, new_script}
use Rattle.csq_replay.specs.Outcomes.{ComesTo}
use Rattle.csq_replay.specs.Schedule.{Numbered, run_of, grown, ReportsLine}
use Rattle.csq_replay.specs.ScriptAnswer.{ReportsCall, going_on}
use Rattle.csq_replay.specs.CallOutcomes.{CallComesTo}
use Rattle.csq_replay.specs.Lines.{IsAnswer}
use Rattle.csq_replay.proofs.OneCall.{call_not_skipped, call_is_within}
use Rattle.csq_replay.proofs.Answering.{until_answer}
use Rattle.csq_explain.specs.Executions.{StopsFor}
use Rattle.csq_explain.specs.Explaining.{IsScheduleText}
use Rattle.csq_explain.specs.Explanations.{line_text, IsTextClosing}
use Rattle.csq_explain.specs.ExplainingCalls.{IsScriptText}
use Rattle.csq_explain.specs.ScriptExplanations.{call_line_text, closing_text, CallStopsFor}
use Rattle.csq_explain.specs.declared.reasons.Reason.{Reason}
use Rattle.csq_diagnose.specs.Schedules.{IsReportedStop, ReportsReason, DiagnosesStep, IsScheduleDiagnosis}
use Rattle.csq_diagnose.specs.Diagnoses.{DiagnosesCall, ReportsCallStop, IsScriptDiagnosis}
use Rattle.csq_diagnose.specs.Diagnoses.DiagnosesCall.{is_long, is_skipped, is_call, is_malformed}
use Rattle.csq_diagnose.specs.Reports.{IsReport, IsReportUntil}
use Rattle.csq_diagnose.specs.declared.diagnosed.Report.{Report}
use Rattle.csq_diagnose.proofs.Reporting.{diagnosed}

-- a step leads on, and nothing is said of it
pub step_on : (size : Size) (W V : List Numbered) (n : ℕ) (line : List ℕ) (comes : Outcome) → ComesTo size (run_of W) line comes → Some V ≡ grown W n comes → DiagnosesStep size W n line [] (Some V)
step_on size W V n line outcome.Skipped came e = (outcome.Skipped, came, refl, e)
step_on size W V n line (outcome.Accepted m) came e = (outcome.Accepted m, came, refl, e)
step_on size W V n line (outcome.Stopped stop) came e = absurd (cc e)

-- the line that ends the handling is diagnosed by its reason
pub step_ends : (size : Size) (W : List Numbered) (n : ℕ) (line said : List ℕ) (reason : Reason) → StopsFor size W n line reason → ReportsReason reason n line said → DiagnosesStep size W n line said None
step_ends size W n line said reason (came, is) reported =
    let Comes : Stop → Type 0 = λ stop. ComesTo size (run_of W) line (outcome.Stopped stop) in
    (outcome.Stopped reason.stop, came, reported (λ same. (subst Comes same came).2), refl)

schedule_text : (explains : Bool) (size : Size) (claims : Bool) (input text : List ℕ) (e : Ended)
    → IsAnswer (ReportsLine (line_text explains size) size) (IsTextClosing explains size claims) [] input text e → IsScheduleText explains size claims input text e
schedule_text true size claims input text e is = is
schedule_text false size claims input text e is = is

pub schedule_reported : {A : Type 0} (explains : Bool) (size : Size) (claims : Bool) (input : List ℕ) (report : Report A)
    → IsReportUntil (ReportsLine (line_text explains size) size) (StopsFor size) (IsTextClosing explains size claims) ReportsReason [] input report
    → IsReport (IsScheduleText explains size claims) (IsScheduleDiagnosis size) input report
schedule_reported explains size claims input report is = rw is.ended (
  schedule_text explains size claims input _ _ (until_answer _ _ _ [] input _ is.end is.answer),
  diagnosed (λ W. W) (ReportsLine (line_text explains size) size) (StopsFor size) (IsTextClosing explains size claims) (DiagnosesStep size) ReportsReason
      (λ W V n line text h. step_on size W V n line h.0 h.1 h.3) (step_ends size) is.end _ is.diagnosis [] input _ is.answer,
)

-- a call leads on, and nothing is said of it
call_on : (l : Limits) (s t u : Script) (n : ℕ) (line : List ℕ) (comes : CallOutcome) → CallComesTo l s line comes u → Some t ≡ going_on comes u → DiagnosesCall n line [] (Some tt)
call_on l s t u n line call.Skipped came e = is_skipped came.0 came.1
call_on l s t u n line (call.Answered c r) came e = is_call (call_is_within line c came.0) (call_not_skipped line c came.0) c came.0
call_on l s t u n line (call.Stopped stop) came e = absurd (cc e)

call_ends : (l : Limits) (s : Script) (n : ℕ) (line said : List ℕ) (stop : CallStop) → CallStopsFor l s n line stop → ReportsCallStop stop n line said → DiagnosesCall n line said None
call_ends l s n line said TooLong (t, came) reported = is_long said came.0 reported
call_ends l s n line said Malformed (t, came) reported =
    let (fault, is, at) = reported came.2 in
    is_malformed came.0 came.1 fault is said at

script_text : (explains : Bool) (l : Limits) (input text : List ℕ) (e : Ended)
    → IsAnswer (ReportsCall (call_line_text explains l) l) (λ s text. text ≡ closing_text explains l s) (new_script l) input text e → IsScriptText explains l input text e
script_text true l input text e is = is
script_text false l input text e is = is

pub script_reported : {A : Type 0} (explains : Bool) (l : Limits) (input : List ℕ) (report : Report A)
    → IsReportUntil (ReportsCall (call_line_text explains l) l) (CallStopsFor l) (λ s text. text ≡ closing_text explains l s) ReportsCallStop (new_script l) input report
    → IsReport (IsScriptText explains l) IsScriptDiagnosis input report
script_reported explains l input report is = rw is.ended (
  script_text explains l input _ _ (until_answer _ _ _ (new_script l) input _ is.end is.answer),
  diagnosed (λ (s : Script). tt) (ReportsCall (call_line_text explains l) l) (CallStopsFor l) (λ s text. text ≡ closing_text explains l s) (λ (s : Unit {0}). DiagnosesCall) ReportsCallStop
      (λ s t n line text h. call_on l s t h.1 n line h.0 h.2 h.4) (call_ends l) is.end _ is.diagnosis (new_script l) input _ is.answer,
)
