-- What a script is answered.
use Rattle.std.specs.Prelude.{◌≡◌, ℕ, zero, suc, Bool, List, [], ◌∷◌, ◌++◌, filter, map, codes, Option, Some, None}
use Rattle.irp_core.specs.declared.ids.{IrpId.{IrpId}, IrpLife.{IrpLife}}
use Rattle.irp_core.specs.declared.step.Made.{Made}
use Rattle.irp_core.specs.Owners.{owes, holds}
use Rattle.irp_core.specs.Texts.{irp_text}
use Rattle.csq_words.specs.Queue.{Queued, Limits}
use Rattle.csq_replay.specs.declared.lines.answer.Ended.{Ended}
use Rattle.csq_replay.specs.declared.script.outcome.CallOutcome.{CallOutcome, TheVariants.{Skipped, Answered, Stopped}}
use Rattle.csq_replay.specs.declared.script.remains.Kept.{Kept, TheVariants.{Held, Owed}}
use Rattle.csq_replay.specs.Lines.{of_line, IsAnswer, RepliesTo}
use Rattle.csq_replay.specs.ReplyText.{reply_text}
use Rattle.csq_replay.specs.Calls.{Script, script_pass, new_script, present_of}
use Rattle.csq_replay.specs.CallOutcomes.{CallComesTo, call_stop_text}

-- the script with which the handling goes on, if it does
abbrev pub going_on : CallOutcome → Script → Option Script
going_on Skipped t = Some t
going_on (Answered c r) t = Some t
going_on (Stopped stop) t = None

-- after s the nth line is reported so: by what comes of it, with which s grows to the script with which the handling goes on
abbrev pub ReportsCall : (ℕ → CallOutcome → List ℕ) → Limits → Script → ℕ → List ℕ → List ℕ → Option Script → Type 0
ReportsCall report l s n line text more = (comes : CallOutcome) × (t : Script) × CallComesTo l s line comes t × (text ≡ report n comes) × (more ≡ going_on comes t)

-- the answer to the nth line, of which this came
abbrev pub call_text : ℕ → CallOutcome → List ℕ
call_text n Skipped = []
call_text n (Answered c r) = reply_text r ++ codes "\n"
call_text n (Stopped stop) = of_line n (call_stop_text stop ++ codes "\n")

-- after s the nth line is answered this text, and s grows to the script with which the handling goes on, if it does
abbrev pub AnswersCall : Limits → Script → ℕ → List ℕ → List ℕ → Option Script → Type 0
AnswersCall = ReportsCall call_text

-- the numbers of these IRPs, each after a space
abbrev pub numbers : List IrpId → List ℕ
numbers [] = []
numbers (i ∷ is) = (codes " " ++ irp_text i) ++ numbers is

-- the line of what is listed, in its order
abbrev pub left_line : List IrpId → List ℕ
left_line [] = codes "left none\n"
left_line (i ∷ is) = codes "left" ++ (numbers (i ∷ is) ++ codes "\n")

-- a line of this name, if there are any
abbrev pub named_line : List ℕ → List IrpId → List ℕ
named_line name [] = []
named_line name (i ∷ is) = name ++ (numbers (i ∷ is) ++ codes "\n")

-- so many IRPs, by rising number
abbrev pub irps_below : ℕ → List IrpId
irps_below zero = []
irps_below (suc n) = irps_below n ++ record { 0 = n } ∷ []

-- the pass keeps the IRP so
abbrev pub is_kept : Kept → List Made → IrpLife → Bool
is_kept Held E i = holds E script_pass i
is_kept Owed E i = owes E script_pass i

abbrev pub kept_name : Kept → List ℕ
kept_name Held = codes "held"
kept_name Owed = codes "owed"

-- the listed IRPs after s, in the list's order. IRPs are reported by their numbers, each in its present life
abbrev pub listed_irps : Script → List IrpId
listed_irps s = map (λ (e : Queued). e.irp.irp) s.queue.entries

-- the IRPs that the pass keeps so after s, by rising number
abbrev pub kept_irps : Limits → Script → Kept → List IrpId
kept_irps l s kept = filter (λ n. is_kept kept s.run (present_of s n)) (irps_below l.irps)

-- so the IRPs are left after s
pub record AreLeft (l : Limits) (s : Script) (listed held owed : List IrpId) : Type 0 where
  pub listed_are : listed ≡ listed_irps s
  pub held_are : held ≡ kept_irps l s Held
  pub owed_are : owed ≡ kept_irps l s Owed

-- the closing lines, of what is listed, held and owed
abbrev pub left_lines : List IrpId → List IrpId → List IrpId → List ℕ
left_lines listed held owed = left_line listed ++ (named_line (kept_name Held) held ++ named_line (kept_name Owed) owed)

-- the closing lines after s
abbrev pub closing_lines : Limits → Script → List ℕ
closing_lines l s = left_lines (listed_irps s) (kept_irps l s Held) (kept_irps l s Owed)

-- a script is answered this text
abbrev pub IsScriptAnswer : Limits → List ℕ → List ℕ → Ended → Type 0
IsScriptAnswer l = IsAnswer (AnswersCall l) (λ s text. text ≡ closing_lines l s) (new_script l)

-- of a reader and a writer whose bytes are known: a script was read, and its answer was written
abbrev pub RepliesToScript : Limits → Option (List ℕ) → Option (List ℕ) → Option (List ℕ) → Option (List ℕ) → Ended → Type 0
RepliesToScript l = RepliesTo (IsScriptAnswer l)
