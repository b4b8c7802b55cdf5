-- What may stand in a place of a line.
use Rattle.std.specs.Prelude.{◌≡◌, ◌⊎◌, ℕ, List, [], ◌∷◌, codes, map}
use Rattle.irp_core.specs.declared.ids.{PassId.{PassId}, IrpLife.{IrpLife}}
use Rattle.irp_core.specs.declared.status.NtStatus.{NtStatus}
use Rattle.csq_replay.specs.Pieces.{IsNumber}
use Rattle.csq_replay.specs.StepLine.{IsPassWord, IsNameWord}
use Rattle.csq_replay.specs.CallLine.{IsHexStatus}
use Rattle.csq_explain.specs.Words.{step_words, call_words}
use Rattle.csq_diagnose.specs.declared.expected.{TheConstants.{PLACES}, Expected.{Expected, TheVariants.{Pass, Step, ScriptCall, IrpInLife, Irp, File, Peek, Place, Status, Nothing}}}

-- where an insert or a put-back puts its IRP
abbrev pub place_words : List (List ℕ)
place_words = map (λ word. word.now) PLACES

-- the words that may stand there, if they can be listed
abbrev pub expected_words : Expected → List (List ℕ)
expected_words Step = step_words
expected_words ScriptCall = call_words
expected_words Place = place_words
expected_words _ = []

-- the word is one of these
abbrev pub IsOneOf : List (List ℕ) → List ℕ → Type 0
IsOneOf [] word = ⊥
IsOneOf (one ∷ more) word = (word ≡ one) ⊎ IsOneOf more word

-- the word may stand there
abbrev pub Admits : Expected → List ℕ → Type 0
Admits Pass word = (p : PassId) × IsPassWord word p
Admits Step word = IsOneOf step_words word
Admits ScriptCall word = IsOneOf call_words word
Admits IrpInLife word = (i : IrpLife) × IsNameWord word i
Admits Irp word = (n : ℕ) × IsNumber word n
Admits File word = (n : ℕ) × IsNumber word n
Admits Peek word = (word ≡ codes "*") ⊎ ((n : ℕ) × IsNumber word n)
Admits Place word = IsOneOf place_words word
Admits Status word = (status : NtStatus) × IsHexStatus word status.0
Admits Nothing word = ⊥
