-- What the explanation of a script keeps: the private side of its contract.
use Rattle.std.specs.Prelude.{◌≡◌, ℕ, Bool, true, false, List}
use Rattle.csq_list.specs.Listing.{Listing}
use Rattle.csq_words.specs.Queue.{Limits}
use Rattle.csq_replay.specs.declared.script.outcome.{CallOutcome.{CallOutcome, TheVariants.{Stopped}}, CallStop.{CallStop}}
use Rattle.csq_replay.specs.Calls.{Script}
use Rattle.csq_replay.specs.CallOutcomes.{CallComesTo}
use Rattle.csq_replay.specs.Drivers.{StandsAt, keeping}
use Rattle.csq_replay.specs.ScriptAnswer.{call_text, closing_lines}
use Rattle.csq_explain.specs.declared.script_explanation.ScriptExplanation.{ScriptExplanation}
use Rattle.csq_explain.specs.ExplainingCalls.{explained_call}
use Rattle.csq_explain.specs.ScriptEndings.{explained_closing}

-- what the nth line is answered, with a sentence where it is asked for
abbrev pub call_line_text : Bool → Limits → ℕ → CallOutcome → List ℕ
call_line_text true l = explained_call l
call_line_text false l = call_text

-- the closing lines after s
abbrev pub closing_text : Bool → Limits → Script → List ℕ
closing_text true = explained_closing
closing_text false = closing_lines

-- after s the nth line ends the handling for this reason
abbrev pub CallStopsFor : Limits → Script → ℕ → List ℕ → CallStop → Type 0
CallStopsFor l s n line stop = (t : Script) × CallComesTo l s line (Stopped stop) t

-- it stands at the script s, and is asked for sentences or not
pub record ExplainsScriptAfter {L A : Type 0} (listing : L → Listing) (explanation : ScriptExplanation L A) (c : Limits × Bool) (s : Script) : Type 0 where
  pub stands : StandsAt c.0 (keeping listing explanation.driver) s
  pub explains : explanation.explains ≡ c.1
