-- Schedules that were drawn have their diagnoses.
use Rattle.std.proofs.Common.{◌≡◌, ℕ, Bool, false, string_bytes, List, [], ◌∷◌, Some, None, Option, ap, sym, refl, ◌∙◌, subst}
use Rattle.irp_core.specs.declared.step.Made.{Made}
use Rattle.irp_core.specs.Runs.{Size}
use Rattle.csq_replay.specs.declared.schedule.outcome.{Outcome.{Outcome, TheVariants.{Skipped, Accepted, Stopped}}, Stop.{Stop, TheVariants.{TooLong, Malformed, Refused}}}
use Rattle.csq_replay.specs.Schedule.{Numbered, grown}
use Rattle.csq_explain.specs.Executions.{StopsFor}
use Rattle.csq_draw.specs.declared.refusals.FirstRefusal.{FirstRefusal}
use Rattle.csq_draw.specs.Drawings.{Drawn, NotesLine, after_accepted, after_stopped, drawn_after, new_drawn, reason_at}
use Rattle.csq_draw.specs.Refusals.{noted_step}
use Rattle.csq_diagnose.specs.Schedules.{ReportsReason, DiagnosesStep, IsScheduleDiagnosis}
use Rattle.csq_diagnose.specs.Reports.{IsReportUntil}
use Rattle.csq_diagnose.specs.declared.diagnosed.Report.{Report}
use Rattle.csq_diagnose.proofs.Reporting.{diagnosed}
use Rattle.csq_diagnose.proofs.Reported.{step_on, step_ends}

-- the execution makes each step that it accepts
own_accepted : (d : Drawn) (n : ℕ) (m : Made) (refusal : Option FirstRefusal) → (after_accepted d n m refusal).own ≡ record { line = n; step = m } ∷ d.own
own_accepted d n m None = refl
own_accepted d n m (Some refusal) = refl

-- a drawing that ends at a refused step goes on after none
none_noted : (stop : Stop) → noted_step false stop ≡ None
none_noted TooLong = refl
none_noted Malformed = refl
none_noted (Refused s cause) = refl

-- so its execution goes on as the lines say
drawn_own : (size : Size) (d e : Drawn) (n : ℕ) (comes : Outcome) → Some e ≡ drawn_after size false d n comes → Some e.own ≡ grown d.own n comes
drawn_own size d e n Skipped is = let same : e ≡ d = cc is in ap (λ (x : Drawn). Some x.own) same
drawn_own size d e n (Accepted m) is = let same : e ≡ after_accepted d n m d.refusal = cc is in ap (λ (x : Drawn). Some x.own) same ∙ ap (λ W. Some W) (own_accepted d n m d.refusal)
drawn_own size d e n (Stopped stop) is = let none : Some e ≡ None = is ∙ ap (after_stopped d n (reason_at size d stop)) (none_noted stop) in absurd (cc none)

-- and its diagnosis is the schedule's
pub drawing_reported : {A : Type 0} (size : Size) (wrong : Bool) (input : List ℕ) (report : Report A) → wrong ≡ false
    → IsReportUntil (NotesLine size wrong) (λ d. StopsFor size d.own) (λ d text. Unit {0}) ReportsReason new_drawn input report
    → IsScheduleDiagnosis size input (string_bytes report.diagnosis) report.ended
drawing_reported size wrong input report stays is = rw is.ended (
    diagnosed (λ (d : Drawn). d.own) (NotesLine size wrong) (λ d. StopsFor size d.own) (λ d text. Unit {0}) (DiagnosesStep size) ReportsReason
    (λ d e n line text h. step_on size d.own e.own n line h.0 h.1 (drawn_own size d e n h.0 (h.2 ∙ ap (λ goes. drawn_after size goes d n h.0) stays)))
    (λ d. step_ends size d.own) is.end _ is.diagnosis new_drawn input _ is.answer
    )
