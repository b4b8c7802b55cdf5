-- Which line ends a schedule or a script, and why.
use Rattle.std.specs.Prelude.{◌≡◌, ℕ, ◌<◌, List, [], length, Option, Some, None}
use Rattle.csq_replay.specs.declared.lines.answer.Ended.{Ended}
use Rattle.csq_replay.specs.declared.script.call.ScriptCall.{ScriptCall}
use Rattle.csq_replay.specs.declared.script.outcome.CallStop.{CallStop, TheVariants.{TooLong, Malformed as NoCall}}
use Rattle.csq_replay.specs.Lines.{IsWithinLine, IsSkipped, IsAnswer}
use Rattle.csq_replay.specs.CallLine.{IsCallLine}
use Rattle.csq_diagnose.specs.declared.grammar.Grammar.TheVariants.{Script}
use Rattle.csq_diagnose.specs.declared.malformed.Malformed.{Malformed}
use Rattle.csq_diagnose.specs.Malforms.{IsMalformed}
use Rattle.csq_diagnose.specs.Columns.{IsAt}

-- the nth line of a script ends it and is reported so, or it names a call and nothing is reported
pub data DiagnosesCall (n : ℕ) (line : List ℕ) : List ℕ → Option (Unit {0}) → Type 0 where
  is_long : (text : List ℕ) → 64 < length line → IsAt n 65 text → DiagnosesCall n line text None
  is_skipped : IsWithinLine line → IsSkipped line → DiagnosesCall n line [] (Some tt)
  is_call : IsWithinLine line → ¬ IsSkipped line → (c : ScriptCall) → IsCallLine line c → DiagnosesCall n line [] (Some tt)
  is_malformed : IsWithinLine line → ¬ IsSkipped line → (fault : Malformed) → IsMalformed Script line fault → (text : List ℕ) → IsAt n fault.column text → DiagnosesCall n line text None

-- the nth line ends a script for this reason, and is reported so, if one that is malformed names no call
abbrev pub ReportsCallStop : CallStop → ℕ → List ℕ → List ℕ → Type 0
ReportsCallStop TooLong n line text = IsAt n 65 text
ReportsCallStop NoCall n line text = ((c : ScriptCall) → ¬ IsCallLine line c) → (fault : Malformed) × IsMalformed Script line fault × IsAt n fault.column text

-- a script is diagnosed so: by its first line that ends it, if there is one
abbrev pub IsScriptDiagnosis : List ℕ → List ℕ → Ended → Type 0
IsScriptDiagnosis = IsAnswer (λ (s : Unit {0}). DiagnosesCall) (λ (s : Unit {0}) text. text ≡ []) tt
