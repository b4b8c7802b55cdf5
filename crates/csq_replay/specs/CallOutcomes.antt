-- What comes of a line of a script.
use Rattle.std.specs.Prelude.{◌≡◌, ◌<◌, List, ℕ, length, codes}
use Rattle.csq_words.specs.Queue.{Limits}
use Rattle.irp_core.specs.Runs.{IsRun}
use Rattle.csq_replay.specs.declared.script.call.ScriptCall.{ScriptCall}
use Rattle.csq_replay.specs.declared.script.outcome.{CallStop.{CallStop, TheVariants.{TooLong, Malformed}}, CallOutcome.{CallOutcome, TheVariants.{Skipped, Answered, Stopped}}}
use Rattle.csq_replay.specs.Lines.{IsWithinLine, IsSkipped}
use Rattle.csq_replay.specs.CallLine.{IsCallLine}
use Rattle.csq_replay.specs.Calls.{Script, script_size, Does}

-- after s this comes of the line, and then the script is t: the line is skipped, its call is answered, or it ends the handling
abbrev pub CallComesTo : Limits → Script → List ℕ → CallOutcome → Script → Type 0
CallComesTo l s line Skipped t = IsWithinLine line × IsSkipped line × (t ≡ s)
CallComesTo l s line (Answered c r) t = IsCallLine line c × Does l s c r t × IsRun (script_size l) t.run
CallComesTo l s line (Stopped TooLong) t = (64 < length line) × (t ≡ s)
CallComesTo l s line (Stopped Malformed) t = IsWithinLine line × (¬ IsSkipped line) × ((c : ScriptCall) → ¬ IsCallLine line c) × (t ≡ s)

-- why a line ends the handling
abbrev pub call_stop_text : CallStop → List ℕ
call_stop_text TooLong = codes "too long"
call_stop_text Malformed = codes "malformed"
