-- Where an IRP is in the end, and whether all is at rest, in sentences.
use Rattle.std.specs.Prelude.{Bool, List, ℕ, ◌++◌, codes, if◌then◌else◌}
use Rattle.irp_core.specs.declared.standing.IrpPlace.{IrpPlace, TheVariants.{Home, Listed, HeldBy, Completed}}
use Rattle.irp_core.specs.Texts.{name_text, pass_text}
use Rattle.csq_replay.specs.declared.schedule.closing.IrpLine.{IrpLine}
use Rattle.csq_explain.specs.Sentences.{due_status_words}

-- where an IRP is
abbrev pub place_words : IrpPlace → List ℕ
place_words Home = codes " wasn't inserted"
place_words Listed = codes " is in the list"
place_words (HeldBy p) = codes " is out of the list, and " ++ (pass_text p ++ codes " holds it")
place_words (Completed status p) = codes " was completed by " ++ (pass_text p ++ (codes " with " ++ due_status_words status))

-- whether its Cancel flag is set
abbrev pub flag_sentence : Bool → List ℕ
flag_sentence set = if set then codes "; its Cancel flag is set" else codes "; its Cancel flag is clear"

-- a closing line, in a sentence
abbrev pub irp_sentence : IrpLine → List ℕ
irp_sentence line = codes "IRP " ++ (name_text line.name ++ (place_words line.place ++ flag_sentence line.cancelled))

-- whether all is at rest, in a sentence
abbrev pub rest_sentence : Bool → List ℕ
rest_sentence rest = if rest then codes "all is at rest: no call is unfinished, and nobody owes or holds an IRP" else codes "not all is at rest: a call is unfinished, or a pass owes or holds an IRP"
