-- A schedule that may break the protocol, followed by the two words of each IRP, and what comes of it.
use Rattle.std.specs.Prelude.{◌≡◌, ◌<◌, ℕ, ◌==◌, Bool, true, false, List, [], ◌∷◌, ◌++◌, codes, decimal, Option, Some, None, if◌then◌else◌}
use Rattle.irp_core.specs.declared.refusals.StepRefused.{StepRefused, TheVariants.{UnknownIrp, UnknownPass}}
use Rattle.irp_core.specs.declared.step.{Made.{Made}, Step.{Step}}
use Rattle.irp_core.specs.Runs.{OfIrp, Size}
use Rattle.irp_core.specs.Steps.{number}
use Rattle.irp_core.specs.Texts.{refusal_text}
use Rattle.csq_replay.specs.declared.schedule.outcome.{Outcome.{Outcome, TheVariants.{Skipped, Accepted, Stopped}}, Stop.{Stop, TheVariants.{TooLong, Malformed, Refused}}}
use Rattle.csq_replay.specs.Outcomes.{ComesTo, stop_text}
use Rattle.csq_replay.specs.Schedule.{Numbered, run_of}
use Rattle.csq_explain.specs.declared.reasons.Reason.{Reason}
use Rattle.csq_explain.specs.declared.harms.{HarmAt.{HarmAt}, TheConstants.{NO_HARM}}
use Rattle.csq_explain.specs.declared.line_steps.LineStep.{LineStep}
use Rattle.csq_explain.specs.declared.wrong.WrongOrder.{WrongOrder}
use Rattle.csq_explain.specs.Harms.{harms_of, harm_text}
use Rattle.csq_explain.specs.LineSteps.{by_words, line_step_text}
use Rattle.csq_explain.specs.Orders.{OrderStands}
use Rattle.csq_explain.specs.Executions.{Follows}

-- a step that the protocol allows, or that comes after one that it refused
abbrev pub accepted_step : List LineStep → ℕ → ℕ → Made → LineStep
accepted_step V broken n m = if broken == 0 then record { line = n; made = m } else by_words V n m.pass m.kind

-- a step that it refuses
abbrev pub refused_step : List LineStep → ℕ → Step → LineStep
refused_step V n s = by_words V n s.pass s.kind

-- the line of the first step that was refused, or 0
abbrev pub broken_at : ℕ → ℕ → ℕ
broken_at broken n = if broken == 0 then n else broken

-- what is written of a step that is allowed, or comes after a refused one
abbrev pub accepted_text : List LineStep → ℕ → ℕ → Made → List ℕ
accepted_text V broken n m = line_step_text (accepted_step V broken n m) ++ codes "\n"

-- and of one that is refused: the first time also why
abbrev pub refused_text : List LineStep → ℕ → ℕ → Step → StepRefused → List ℕ
refused_text V broken n s cause = line_step_text (refused_step V n s) ++ (if broken == 0 then codes " refused " ++ (refusal_text cause ++ codes "\n") else codes "\n")

-- an order may go on after a line that ends a schedule: it names a step, and there are its IRP and its pass
abbrev pub goes_on : Stop → Bool
goes_on (Refused s UnknownIrp) = false
goes_on (Refused s UnknownPass) = false
goes_on (Refused s cause) = true
goes_on TooLong = false
goes_on Malformed = false

-- the nth line ends the handling
abbrev pub ended_text : ℕ → Stop → List ℕ
ended_text n stop = codes "line " ++ (decimal n ++ (codes " " ++ (stop_text stop ++ codes "\n")))

-- why a line that the execution stops at ends the handling, if it does
abbrev pub why_ended : Reason → Option Reason
why_ended reason = if goes_on reason.stop then None else Some reason

-- the step of a line at which the execution stops, if the order goes on after it, is of an IRP below this number
abbrev pub IsOfKnown : ℕ → Stop → Type 0
IsOfKnown irps (Refused s cause) = goes_on (Refused s cause) ≡ true → OfIrp (λ i. number i < irps) s.kind
IsOfKnown irps _ = Unit {0}

-- the steps after the nth line, at which the execution stops; what is written of that line; and the line of the first step that was refused
abbrev pub steps_after : List LineStep → ℕ → Stop → List LineStep
steps_after V n (Refused s cause) = if goes_on (Refused s cause) then refused_step V n s ∷ V else V
steps_after V n _ = V

abbrev pub stopped_text : List LineStep → ℕ → ℕ → Stop → List ℕ
stopped_text V broken n (Refused s cause) = if goes_on (Refused s cause) then refused_text V broken n s cause else ended_text n (Refused s cause)
stopped_text V broken n TooLong = ended_text n TooLong
stopped_text V broken n Malformed = ended_text n Malformed

abbrev pub broken_after : ℕ → ℕ → Stop → ℕ
broken_after broken n (Refused s cause) = if goes_on (Refused s cause) then broken_at broken n else broken
broken_after broken n _ = broken

-- what a schedule led to: the steps of the execution and all steps, the newest first, and the line of the first that was refused, or 0
pub record Wrong : Type 0 where
  pub own : List Numbered
  pub steps : List LineStep
  pub broken : ℕ

-- before the first line
abbrev pub new_wrong : Wrong
new_wrong = record { own = []; steps = []; broken = 0 }

-- after a step that the execution made, and after a line at which it stops
abbrev pub with_accepted : Wrong → ℕ → Made → Wrong
with_accepted d n m = record { own = record { line = n; step = m } ∷ d.own; steps = accepted_step d.steps d.broken n m ∷ d.steps; broken = d.broken }

abbrev pub with_stopped : Wrong → ℕ → Stop → Wrong
with_stopped d n stop = record { own = d.own; steps = steps_after d.steps n stop; broken = broken_after d.broken n stop }

-- what the nth line is answered, and what it leads to
abbrev pub wrong_text : Wrong → ℕ → Outcome → List ℕ
wrong_text d n Skipped = []
wrong_text d n (Accepted m) = accepted_text d.steps d.broken n m
wrong_text d n (Stopped stop) = stopped_text d.steps d.broken n stop

abbrev pub wrong_after : Wrong → ℕ → Outcome → Option Wrong
wrong_after d n Skipped = Some d
wrong_after d n (Accepted m) = Some (with_accepted d n m)
wrong_after d n (Stopped stop) = if goes_on stop then Some (with_stopped d n stop) else None

abbrev pub WrongLine : Size → Wrong → ℕ → List ℕ → List ℕ → Option Wrong → Type 0
WrongLine size d n line text more = (comes : Outcome) × ComesTo size (run_of d.own) line comes × (text ≡ wrong_text d n comes) × (more ≡ wrong_after d n comes)

-- what goes wrong at these steps, each on a line of its own
abbrev pub harms_text : List HarmAt → List ℕ
harms_text [] = []
harms_text (h ∷ harms) = (harm_text h.step h.harm ++ codes "\n") ++ harms_text harms

-- or that nothing does
abbrev pub harms_report : List HarmAt → List ℕ
harms_report [] = NO_HARM.now ++ codes "\n"
harms_report (h ∷ harms) = harms_text (h ∷ harms)

-- in which line the protocol was broken
abbrev pub broken_text : ℕ → List ℕ
broken_text broken = codes "the protocol is broken in line " ++ (decimal broken ++ codes "\n")

-- whether the protocol was kept, and otherwise what goes wrong
abbrev pub end_text : ℕ → ℕ → List LineStep → List ℕ
end_text irps broken V = if broken == 0 then codes "the protocol is kept\n" else broken_text broken ++ harms_report (harms_of irps V)

abbrev pub WrongCloses : Size → Wrong → List ℕ → Type 0
WrongCloses size d text = text ≡ end_text size.irps d.broken d.steps

-- an order stands where the lines so far led to
pub record WrongAfter {A : Type 0} (wrong : WrongOrder A) (size : Size) (d : Wrong) : Type 0 where
  pub follows : Follows size wrong.execution d.own
  pub all : OrderStands wrong.order size.irps d.steps
  pub since : wrong.broken ≡ d.broken
