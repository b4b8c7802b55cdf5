-- Why a line ends a schedule, in a sentence.
use Rattle.std.specs.Prelude.{ℕ, List, ◌++◌, codes, decimal, filter, not, slice_index_or}
use Rattle.std.specs.Str.{bytes_eq}
use Rattle.irp_core.specs.declared.ids.PassId.{PassId}
use Rattle.irp_core.specs.declared.inside.Inside.{Inside, TheVariants.{Nothing, Armed, FlagSeen, Removing, Cancelling, Rearmed, FlagSeenAgain}}
use Rattle.irp_core.specs.declared.refusals.StepRefused.{StepRefused, TheVariants.{UnknownIrp, UnknownPass, LockHeld, NotNext, NotHome, NotListed, NotOwed, NotHeld, Stale, NotCompleted, LivesSpent}}
use Rattle.irp_core.specs.declared.step.Kind.{Kind, TheVariants.{Rearm}}
use Rattle.irp_core.specs.Runs.{Size}
use Rattle.irp_core.specs.Texts.{name_text, pass_text, life_text}
use Rattle.csq_replay.specs.declared.schedule.outcome.Stop.{Stop, TheVariants.{TooLong, Malformed, Refused}}
use Rattle.csq_replay.specs.declared.lines.TheConstants.{MAX_LINE}
use Rattle.csq_replay.specs.Schedule.{Numbered}
use Rattle.csq_explain.specs.declared.irps.IrpState.{IrpState}
use Rattle.csq_explain.specs.declared.passes.PassNow.{PassNow}
use Rattle.csq_explain.specs.declared.reasons.Reason.{Reason}
use Rattle.csq_explain.specs.Irps.{all_irps, irp_asked}
use Rattle.csq_explain.specs.Passes.{all_passes, new_pass_now}
use Rattle.csq_explain.specs.Words.{step_words, listed}

-- the pass that a line's end concerns: the one that has the lock, otherwise the one that would make the step
abbrev pub pass_asked : Stop → PassId
pass_asked TooLong = record { 0 = 0 }
pass_asked Malformed = record { 0 = 0 }
pass_asked (Refused s (LockHeld q)) = q
pass_asked (Refused s cause) = s.pass

-- the call that a pass is inside of
abbrev pub call_name : Inside → List ℕ
call_name Nothing = codes "no call"
call_name (Armed i) = codes "an insert"
call_name (FlagSeen i) = codes "an insert"
call_name Removing = codes "a removal"
call_name (Cancelling i) = codes "a cancel"
call_name (Rearmed i) = codes "a put-back"
call_name (FlagSeenAgain i) = codes "a put-back"

-- and its next step
abbrev pub next_step : Inside → List ℕ
next_step Nothing = codes "the first of a call"
next_step (Armed i) = codes "test " ++ name_text i
next_step (FlagSeen i) = codes "disarm " ++ name_text i
next_step Removing = codes "a disarm or an end"
next_step (Cancelling i) = codes "take " ++ name_text i
next_step (Rearmed i) = codes "test " ++ name_text i
next_step (FlagSeenAgain i) = codes "disarm " ++ name_text i

-- how far a pass is in its call, since this line
abbrev pub inside_text : Inside → ℕ → List ℕ
inside_text Nothing line = codes " is inside no call: an insert begins with arm, a put-back with rearm, a cancel with flag"
inside_text x line = codes " has been inside " ++ (call_name x ++ (codes " since line " ++ (decimal line ++ (codes "; its next step is " ++ next_step x))))

-- that the pass of a step of this kind doesn't hold its IRP, or not by a removal
abbrev pub unheld_text : Kind → List ℕ
unheld_text (Rearm i) = codes " got the IRP by no removal in that life, or holds it no longer"
unheld_text _ = codes " doesn't hold the IRP in that life"

-- why p's step of this kind is refused for this cause
abbrev pub cause_text : ℕ → ℕ → PassNow → PassId → Kind → StepRefused → List ℕ
cause_text irps passes now p k UnknownIrp = codes "an IRP's number is below " ++ decimal irps
cause_text irps passes now p k UnknownPass = codes "a pass's number is 1 to " ++ decimal passes
cause_text irps passes now p k (LockHeld q) = pass_text q ++ (codes " has had the lock since line " ++ (decimal now.line ++ (codes ", inside " ++ (call_name now.inside ++ (codes "; its next step is " ++ next_step now.inside)))))
cause_text irps passes now p k NotNext = pass_text p ++ inside_text now.inside now.line
cause_text irps passes now p k NotHome = codes "the IRP was armed before in that life"
cause_text irps passes now p k NotListed = codes "the IRP isn't listed in that life"
cause_text irps passes now p k NotOwed = pass_text p ++ codes " doesn't owe the IRP in that life"
cause_text irps passes now p k NotHeld = pass_text p ++ unheld_text k
cause_text irps passes now p k (Stale g) = codes "the IRP is in its life " ++ life_text g
cause_text irps passes now p k NotCompleted = codes "the IRP isn't completed in that life"
cause_text irps passes now p k LivesSpent = codes "the IRP is in its last life"

-- why a line ends the handling
abbrev pub stop_reason : ℕ → ℕ → PassNow → Stop → List ℕ
stop_reason irps passes now TooLong = codes "a line has at most " ++ (decimal MAX_LINE ++ codes " bytes")
stop_reason irps passes now Malformed = codes "this is no step, as p1 arm 0: " ++ (listed 0 (filter (λ word. not (bytes_eq word (codes "end"))) step_words) ++ codes ", or p1 end")
stop_reason irps passes now (Refused s cause) = cause_text irps passes now s.pass s.kind cause

unfoldable pub reason_text : Reason → List ℕ
reason_text reason = stop_reason reason.irps reason.passes reason.now reason.stop

-- why a line ends the handling, by what is known of these passes and IRPs
abbrev pub reason_by : Size → List PassNow → List IrpState → Stop → Reason
reason_by size passes irps stop = record {
  stop = stop;
  irps = size.irps;
  passes = size.passes;
  now = slice_index_or passes (pass_asked stop).0 new_pass_now;
  irp = irp_asked irps stop;
}

-- and after the steps W
abbrev pub reason_of : Size → List Numbered → Stop → Reason
reason_of size W stop = reason_by size (all_passes size W) (all_irps size W) stop
