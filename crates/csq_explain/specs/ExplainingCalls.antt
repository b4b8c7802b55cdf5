-- What a script is answered, with a sentence after each line.
use Rattle.std.specs.Prelude.{◌≡◌, ℕ, Bool, true, false, List, [], ◌++◌, Option}
use Rattle.csq_words.specs.Queue.{Limits}
use Rattle.csq_replay.specs.declared.lines.answer.Ended.{Ended}
use Rattle.csq_replay.specs.declared.script.outcome.CallOutcome.{CallOutcome, TheVariants.{Skipped, Answered, Stopped}}
use Rattle.csq_replay.specs.Lines.{IsAnswer}
use Rattle.csq_replay.specs.Calls.{Script, new_script}
use Rattle.csq_replay.specs.ScriptAnswer.{ReportsCall, call_text, IsScriptAnswer}
use Rattle.csq_explain.specs.CallSentences.{reply_sentence, call_stop_sentence}
use Rattle.csq_explain.specs.Explaining.{remark}
use Rattle.csq_explain.specs.ScriptEndings.{explained_closing}

-- what follows the answer to a line of which this came
abbrev pub call_remark : Limits → CallOutcome → List ℕ
call_remark l Skipped = []
call_remark l (Answered c r) = remark (reply_sentence l.irps l.files c r)
call_remark l (Stopped stop) = remark (call_stop_sentence stop)

-- the answer to the nth line, and a sentence
abbrev pub explained_call : Limits → ℕ → CallOutcome → List ℕ
explained_call l n comes = call_text n comes ++ call_remark l comes

abbrev pub ExplainsCall : Limits → Script → ℕ → List ℕ → List ℕ → Option Script → Type 0
ExplainsCall l = ReportsCall (explained_call l) l

-- a script is answered this text, which explains it
abbrev pub IsScriptExplanation : Limits → List ℕ → List ℕ → Ended → Type 0
IsScriptExplanation l = IsAnswer (ExplainsCall l) (λ s text. text ≡ explained_closing l s) (new_script l)

-- a script is answered this text, with a sentence after each line where these are asked for
abbrev pub IsScriptText : Bool → Limits → List ℕ → List ℕ → Ended → Type 0
IsScriptText true = IsScriptExplanation
IsScriptText false = IsScriptAnswer
