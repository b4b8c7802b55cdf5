-- The lines that name a call.
use Rattle.std.specs.Prelude.{◌≡◌, ◌⊎◌, ℕ, List, [], ◌∷◌, length, codes, decimal, Option, Some, None}
use Rattle.std.specs.Str.Parse.{AllDigits, digits_value}
use Rattle.irp_core.specs.declared.ids.{FileId.{FileId}, IrpId.{IrpId}, IrpLife.{IrpLife}}
use Rattle.irp_core.specs.Texts.{irp_text}
use Rattle.csq_list.specs.declared.entry.{Place.{Place, TheVariants.{Back, Front}}, Peek.TheVariants.{Any, File}}
use Rattle.csq_replay.specs.declared.script.call.ScriptCall.{ScriptCall, TheVariants.{Insert, Next, Remove, Mark, Routine, Cancel, Complete, Close, Cleanup, Flag, Status, Reuse, PutBack}}
use Rattle.csq_replay.specs.Pieces.{words_of, IsShort}
use Rattle.csq_replay.specs.StepLine.{IsNameWord}

-- the word that a call begins with
abbrev pub call_name : ScriptCall → List ℕ
call_name (Insert i f place) = codes "insert"
call_name (Next k) = codes "next"
call_name (Remove i) = codes "remove"
call_name (Mark i) = codes "mark"
call_name (Routine i) = codes "routine"
call_name (Cancel i) = codes "cancel"
call_name (Complete i status) = codes "complete"
call_name (Close f) = codes "close"
call_name (Cleanup f) = codes "cleanup"
call_name (Flag i) = codes "flag"
call_name (Status i) = codes "status"
call_name (Reuse i) = codes "reuse"
call_name (PutBack i place) = codes "put_back"

abbrev pub place_word : Place → List ℕ
place_word Back = codes "back"
place_word Front = codes "front"

-- the IRP and life that a call names, if it names a life
abbrev pub named_life : ScriptCall → Option IrpLife
named_life (Remove i) = Some i
named_life (Mark i) = Some i
named_life (Cancel i) = Some i
named_life _ = None

-- calls of this name name a life
abbrev pub IsLifeName : List ℕ → Type 0
IsLifeName name = (name ≡ codes "remove") ⊎ ((name ≡ codes "mark") ⊎ (name ≡ codes "cancel"))

-- the word names this IRP, by its number alone
abbrev pub IsIrpWord : List ℕ → IrpId → Type 0
IsIrpWord word n = (word ≡ irp_text n) × IsShort n.0

-- the word names this file object
abbrev pub IsFileWord : List ℕ → FileId → Type 0
IsFileWord word f = (word ≡ decimal f.0) × IsShort f.0

-- eight hexadecimal digits, in either case, write this status
abbrev pub IsHexStatus : List ℕ → ℕ → Type 0
IsHexStatus word code = (length word ≡ 8) × AllDigits 16 word × (code ≡ digits_value 16 word)

-- the words are one that is as P says
abbrev pub IsOne : (List ℕ → Type 0) → List (List ℕ) → Type 0
IsOne P words = (word : List ℕ) × (words ≡ word ∷ []) × P word

-- the words after its name are those of this call
abbrev pub AreOperands : List (List ℕ) → ScriptCall → Type 0
AreOperands words (Insert i f place) = (irp file : List ℕ) × (words ≡ irp ∷ file ∷ place_word place ∷ []) × IsIrpWord irp i × IsFileWord file f
AreOperands words (Next Any) = words ≡ codes "*" ∷ []
AreOperands words (Next (File f)) = IsOne (λ word. IsFileWord word f) words
AreOperands words (Remove i) = IsOne (λ word. IsNameWord word i) words
AreOperands words (Mark i) = IsOne (λ word. IsNameWord word i) words
AreOperands words (Routine i) = IsOne (λ word. IsIrpWord word i) words
AreOperands words (Cancel i) = IsOne (λ word. IsNameWord word i) words
AreOperands words (Complete i status) = (irp digits : List ℕ) × (words ≡ irp ∷ digits ∷ []) × IsIrpWord irp i × IsHexStatus digits status.0
AreOperands words (Close f) = IsOne (λ word. IsFileWord word f) words
AreOperands words (Cleanup f) = IsOne (λ word. IsFileWord word f) words
AreOperands words (Flag i) = IsOne (λ word. IsIrpWord word i) words
AreOperands words (Status i) = IsOne (λ word. IsIrpWord word i) words
AreOperands words (Reuse i) = IsOne (λ word. IsIrpWord word i) words
AreOperands words (PutBack i place) = (irp : List ℕ) × (words ≡ irp ∷ place_word place ∷ []) × IsIrpWord irp i

-- this name and these operands are of this call
abbrev pub IsNamed : List ℕ → List (List ℕ) → ScriptCall → Type 0
IsNamed name operands c = (name ≡ call_name c) × AreOperands operands c

-- the line names this call: its name, and then its operands
abbrev pub IsCallLine : List ℕ → ScriptCall → Type 0
IsCallLine line c = (name : List ℕ) × (operands : List (List ℕ)) × (words_of line ≡ name ∷ operands) × IsNamed name operands c
