-- What may stand in each place of a line, and which beginnings a line may have.
use Rattle.std.specs.Prelude.{◌≡◌, ◌||◌, ℕ, zero, suc, List, [], ◌∷◌, ◌++◌, codes, if◌then◌else◌}
use Rattle.std.specs.Str.{bytes_eq}
use Rattle.irp_core.specs.declared.step.Step.{Step as StepOf}
use Rattle.csq_replay.specs.StepLine.{IsPassWord, AreKindWords}
use Rattle.csq_replay.specs.declared.script.call.ScriptCall.{ScriptCall as CallOf}
use Rattle.csq_replay.specs.CallLine.{IsNamed}
use Rattle.csq_diagnose.specs.declared.expected.Expected.{Expected, TheVariants.{Pass, Step, ScriptCall, IrpInLife, Irp, File, Peek, Place, Status, Nothing}}
use Rattle.csq_diagnose.specs.declared.grammar.Grammar.{Grammar, TheVariants.{Schedule, Script}}
use Rattle.csq_diagnose.specs.Expecting.{Admits}

-- the first two words of a line, empty if it has fewer
abbrev pub first_word : List (List ℕ) → List ℕ
first_word [] = []
first_word (w ∷ ws) = w

abbrev pub second_word : List (List ℕ) → List ℕ
second_word [] = []
second_word (w ∷ ws) = first_word ws

-- what may follow the word that says what a step does
abbrev pub named : List ℕ → List Expected
named verb = if bytes_eq verb (codes "end") then [] else IrpInLife ∷ []

-- what may stand in each place of a step with this second word
abbrev pub step_places : List ℕ → List Expected
step_places verb = Pass ∷ Step ∷ named verb

-- what may follow the name of a call
abbrev pub operands : List ℕ → List Expected
operands name =
    if bytes_eq name (codes "insert") then Irp ∷ File ∷ Place ∷ []
    else if bytes_eq name (codes "next") then Peek ∷ []
    else if bytes_eq name (codes "complete") then Irp ∷ Status ∷ []
    else if bytes_eq name (codes "put_back") then Irp ∷ Place ∷ []
    else if bytes_eq name (codes "remove") || bytes_eq name (codes "mark") || bytes_eq name (codes "cancel") then IrpInLife ∷ []
    else if bytes_eq name (codes "close") || bytes_eq name (codes "cleanup") then File ∷ []
    else Irp ∷ []

-- what may stand in each place of a call with this first word
abbrev pub call_places : List ℕ → List Expected
call_places name = ScriptCall ∷ operands name

-- what may stand in each place of a line of these words
abbrev pub places_of : Grammar → List (List ℕ) → List Expected
places_of Schedule ws = step_places (second_word ws)
places_of Script ws = call_places (first_word ws)

-- what may stand in the place of this number, from 0
abbrev pub expected_at : List Expected → ℕ → Expected
expected_at [] n = Nothing
expected_at (e ∷ es) zero = e
expected_at (e ∷ es) (suc n) = expected_at es n

-- there is a word for each place, and it may stand there
abbrev pub Fit : List Expected → List (List ℕ) → Type 0
Fit [] [] = Unit {0}
Fit (e ∷ es) (w ∷ ws) = Admits e w × Fit es ws
Fit _ _ = ⊥

-- the words are those of a line that names a step, or a call
abbrev pub AreLineWords : Grammar → List (List ℕ) → Type 0
AreLineWords Schedule ws = (s : StepOf) × (first : List ℕ) × (rest : List (List ℕ)) × (ws ≡ first ∷ rest) × IsPassWord first s.pass × AreKindWords rest s.kind
AreLineWords Script ws = (c : CallOf) × (name : List ℕ) × (rest : List (List ℕ)) × (ws ≡ name ∷ rest) × IsNamed name rest c

-- such a line may begin with these words
abbrev pub MayBegin : Grammar → List (List ℕ) → Type 0
MayBegin g ws = (more : List (List ℕ)) × AreLineWords g (ws ++ more)
