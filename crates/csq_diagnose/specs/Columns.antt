-- Where a diagnosis says that a line is at fault. What else it says, a definition would only repeat.
use Rattle.std.specs.Prelude.{◌≡◌, ℕ, List, [], ◌++◌, drop, codes, decimal, Option, Some, None}
use Rattle.irp_core.specs.declared.refusals.StepRefused.{StepRefused, TheVariants.{UnknownPass, LockHeld, NotNext}}
use Rattle.csq_replay.specs.Lines.{GrewBy}
use Rattle.csq_replay.specs.Pieces.{words_of}
use Rattle.csq_diagnose.specs.declared.malformed.Malformed.{Malformed}
use Rattle.csq_diagnose.specs.Misfits.{column_of}

-- what is said of a column of the nth line, after the name of the file
abbrev pub at_text : ℕ → ℕ → List ℕ → List ℕ
at_text n column words = decimal n ++ (codes ":" ++ (decimal column ++ (codes ": " ++ words)))

-- the text names this column of the nth line, and says something of it
abbrev pub IsAt : ℕ → ℕ → List ℕ → Type 0
IsAt n column text = (words : List ℕ) × (text ≡ at_text n column words)

-- a text grew by such a one
abbrev pub GrewAt : ℕ → ℕ → List ℕ → List ℕ → Type 0
GrewAt n column old new = (added : List ℕ) × GrewBy old new added × IsAt n column added

-- the text is of what names no step, or no call, in the nth line, if anything does
abbrev pub IsOfFault : ℕ → Option Malformed → List ℕ → Type 0
IsOfFault n (Some fault) text = IsAt n fault.column text
IsOfFault n None text = text ≡ []

-- the column of the word of a line that stands after the given number of words
abbrev pub column_after : List ℕ → ℕ → ℕ
column_after line before = column_of line (drop before (words_of line))

-- how many words stand before the one that a refusal is about
abbrev pub words_before : StepRefused → ℕ
words_before UnknownPass = 0
words_before (LockHeld q) = 0
words_before NotNext = 1
words_before _ = 2
