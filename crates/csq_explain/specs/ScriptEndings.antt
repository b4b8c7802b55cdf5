-- What is left in the end of a script, in sentences.
use Rattle.std.specs.Prelude.{ℕ, ◌==◌, List, [], ◌∷◌, ◌++◌, length, codes, decimal, if◌then◌else◌}
use Rattle.irp_core.specs.declared.ids.IrpId.{IrpId}
use Rattle.irp_core.specs.Texts.{irp_text}
use Rattle.csq_words.specs.Queue.{Limits}
use Rattle.csq_replay.specs.declared.script.remains.Kept.{Kept, TheVariants.{Held, Owed}}
use Rattle.csq_replay.specs.Calls.{Script}
use Rattle.csq_replay.specs.ScriptAnswer.{left_line, named_line, kept_name, listed_irps, kept_irps}
use Rattle.csq_explain.specs.Explaining.{remark}

-- the numbers of these IRPs, each after a comma
abbrev pub after_commas : List IrpId → List ℕ
after_commas [] = []
after_commas (i ∷ is) = (codes ", " ++ irp_text i) ++ after_commas is

-- the numbers of these IRPs, with a comma between two
abbrev pub joined_numbers : List IrpId → List ℕ
joined_numbers [] = []
joined_numbers (i ∷ is) = irp_text i ++ after_commas is

-- `count` IRPs, of these numbers, are listed
abbrev pub left_words : ℕ → List ℕ → List ℕ
left_words count numbers = if count == 0 then codes "no IRP is listed" else if count == 1 then codes "IRP " ++ (numbers ++ codes " is listed") else decimal count ++ (codes " IRPs are listed, in this order: " ++ numbers)

-- the pass keeps `count` IRPs, of these numbers, so
abbrev pub kept_words : Kept → ℕ → List ℕ → List ℕ
kept_words Held count numbers = if count == 1 then codes "the pass holds IRP " ++ (numbers ++ codes ", and must complete it") else codes "the pass holds IRPs " ++ (numbers ++ codes ", and must complete them")
kept_words Owed count numbers = if count == 1 then codes "the pass owes IRP " ++ (numbers ++ codes ": its cancel routine must run") else codes "the pass owes IRPs " ++ (numbers ++ codes ": their cancel routines must run")

-- the closing line of what is listed, and a sentence
abbrev pub explained_left : List IrpId → List ℕ
explained_left irps = left_line irps ++ remark (left_words (length irps) (joined_numbers irps))

-- the closing line of what the pass keeps so, and a sentence, if there is any
abbrev pub explained_kept : Kept → List IrpId → List ℕ
explained_kept kept [] = []
explained_kept kept (i ∷ is) = named_line (kept_name kept) (i ∷ is) ++ remark (kept_words kept (length (i ∷ is)) (joined_numbers (i ∷ is)))

-- the closing lines of what is listed, held and owed, each with a sentence
abbrev pub explained_remains : List IrpId → List IrpId → List IrpId → List ℕ
explained_remains listed held owed = explained_left listed ++ (explained_kept Held held ++ explained_kept Owed owed)

-- the closing lines after s
abbrev pub explained_closing : Limits → Script → List ℕ
explained_closing l s = explained_remains (listed_irps s) (kept_irps l s Held) (kept_irps l s Owed)
