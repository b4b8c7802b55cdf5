-- The lines that name a step.
use Rattle.std.specs.Prelude.{◌≡◌, ◌⊎◌, List, [], ◌∷◌, ◌++◌, ℕ, codes, Option, Some, None}
use Rattle.irp_core.specs.declared.ids.{PassId.{PassId}, IrpLife.{IrpLife}}
use Rattle.irp_core.specs.declared.step.{Kind.{Kind, TheVariants.{Arm, Test, Disarm, End, Flag, Take, Out, Done, Renew, Rearm}}, Step.{Step}}
use Rattle.irp_core.specs.Steps.{number, life_of, name_of}
use Rattle.irp_core.specs.Texts.{irp_text, life_text, pass_text}
use Rattle.csq_replay.specs.Pieces.{words_of, IsShort}

-- what the step does
abbrev pub verb_of : Kind → List ℕ
verb_of (Arm i) = codes "arm"
verb_of (Test i) = codes "test"
verb_of (Disarm i) = codes "disarm"
verb_of End = codes "end"
verb_of (Flag i) = codes "flag"
verb_of (Take i) = codes "take"
verb_of (Out i) = codes "out"
verb_of (Done i) = codes "done"
verb_of (Renew i) = codes "renew"
verb_of (Rearm i) = codes "rearm"

-- the word names this pass
abbrev pub IsPassWord : List ℕ → PassId → Type 0
IsPassWord word p = (word ≡ pass_text p) × IsShort p.0

-- the word names an IRP in this life: by its number and, after @, the life's, or in life 0 by its number alone
abbrev pub IsNameWord : List ℕ → IrpLife → Type 0
IsNameWord word i = ((word ≡ irp_text i.irp) × IsShort (number i) × (life_of i ≡ 0))
    ⊎ ((word ≡ irp_text i.irp ++ (codes "@" ++ life_text i.life)) × IsShort (number i) × IsShort (life_of i))

-- the words name this, or nothing
abbrev pub AreNameWords : List (List ℕ) → Option IrpLife → Type 0
AreNameWords words None = words ≡ []
AreNameWords words (Some i) = (word : List ℕ) × (words ≡ word ∷ []) × IsNameWord word i

-- the words name this kind of step: what it does, and then what it names
abbrev pub AreKindWords : List (List ℕ) → Kind → Type 0
AreKindWords words k = (names : List (List ℕ)) × (words ≡ verb_of k ∷ names) × AreNameWords names (name_of k)

-- the line names this step: its pass, and then its kind
abbrev pub IsStepLine : List ℕ → Step → Type 0
IsStepLine line s = (first : List ℕ) × (rest : List (List ℕ)) × (words_of line ≡ first ∷ rest) × IsPassWord first s.pass × AreKindWords rest s.kind
