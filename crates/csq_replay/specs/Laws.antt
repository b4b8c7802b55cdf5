-- What holds of every schedule, and of every script.
use Rattle.std.specs.Prelude.{◌≡◌, ◌⊎◌, ℕ, Bool, List, [], ◌∷◌, ◌++◌, Some, IsTrue}
use Rattle.irp_core.specs.Runs.{Size}
use Rattle.csq_replay.specs.declared.lines.answer.Ended.{Ended, TheVariants.{AllHandled}}
use Rattle.csq_replay.specs.Pieces.{lines_of}
use Rattle.csq_replay.specs.Lines.{IsSkipped}
use Rattle.csq_replay.specs.Schedule.{IsScheduleAnswer}
use Rattle.csq_replay.specs.CallLine.{IsCallLine}
use Rattle.irp_core.specs.declared.status.NtStatus.{NtStatus}
use Rattle.irp_core.specs.declared.ids.IrpLife.{IrpLife}
use Rattle.irp_core.specs.Owners.{holds}
use Rattle.csq_words.specs.Plays.{status_recorded}
use Rattle.csq_words.specs.Queue.{Limits, has_irp, has_entry}
use Rattle.csq_replay.specs.declared.script.call.{ScriptCall.{ScriptCall}, Reply.{Reply}}
use Rattle.csq_replay.specs.Calls.{Script, script_pass, new_script, Does}
use Rattle.csq_replay.specs.ScriptAnswer.{IsScriptAnswer, closing_lines}

-- two answers to one schedule are the same
abbrev pub HasOneAnswer : Size → Bool → List ℕ → Type 0
HasOneAnswer size claims input = (text other : List ℕ) (ended otherwise : Ended)
    → IsScheduleAnswer size claims input text ended → IsScheduleAnswer size claims input other otherwise → (text ≡ other) × (ended ≡ otherwise)

-- two answers to one script are the same
abbrev pub HasOneScriptAnswer : Limits → List ℕ → Type 0
HasOneScriptAnswer l input = (text other : List ℕ) (ended otherwise : Ended)
    → IsScriptAnswer l input text ended → IsScriptAnswer l input other otherwise → (text ≡ other) × (ended ≡ otherwise)

-- after the first script these lines lead to the other one, each by its call, or by nothing where it is skipped
pub data LeadTo (l : Limits) : Script → List (List ℕ) → Script → Type 0 where
  at_end : (s : Script) → LeadTo l s [] s
  by_nothing : (s t : Script) (line : List ℕ) (lines : List (List ℕ)) → IsSkipped line → LeadTo l s lines t → LeadTo l s (line ∷ lines) t
  by_call : (s t u : Script) (line : List ℕ) (lines : List (List ℕ)) (c : ScriptCall) (r : Reply) → IsCallLine line c → Does l s c r t → LeadTo l t lines u
      → LeadTo l s (line ∷ lines) u

-- the IRP in this life is listed, held, or completed with a status that is reported
abbrev pub IsAccountedFor : Script → IrpLife → Type 0
IsAccountedFor s i = IsTrue (has_entry s.queue.entries i) ⊎ (IsTrue (holds s.run script_pass i) ⊎ ((status : NtStatus) × (status_recorded i s.completed ≡ Some status)))

-- the text ends with these lines
abbrev pub EndsWith : List ℕ → List ℕ → Type 0
EndsWith text lines = (before : List ℕ) × (text ≡ before ++ lines)

-- an answer to a script that was handled to its end closes with the lines of what the calls of its input led to. There, each life of an
-- IRP that an insert accepted is accounted for
abbrev pub EachInsertedIrpIsAccountedFor : Limits → Type 0
EachInsertedIrpIsAccountedFor l = (input text : List ℕ) → IsScriptAnswer l input text AllHandled
    → (last : Script) × LeadTo l (new_script l) (lines_of input) last × EndsWith text (closing_lines l last) × ((i : IrpLife) → IsTrue (has_irp last.queue.used i) → IsAccountedFor last i)
