-- What a schedule is answered, with a sentence after each line.
use Rattle.std.specs.Prelude.{◌≡◌, ℕ, Bool, true, false, List, [], ◌∷◌, ◌++◌, codes, Option, if◌then◌else◌}
use Rattle.std.specs.Option.{option_map_or}
use Rattle.irp_core.specs.declared.step.Made.{Made}
use Rattle.irp_core.specs.Owners.{is_claim}
use Rattle.irp_core.specs.Runs.{Size}
use Rattle.irp_core.specs.Texts.{name_text, pass_text}
use Rattle.csq_replay.specs.declared.lines.answer.Ended.{Ended}
use Rattle.csq_replay.specs.declared.schedule.closing.IrpLine.{IrpLine}
use Rattle.csq_replay.specs.declared.schedule.outcome.Outcome.{Outcome, TheVariants.{Skipped, Accepted, Stopped}}
use Rattle.csq_replay.specs.Lines.{IsAnswer}
use Rattle.csq_replay.specs.Schedule.{Numbered, run_of, ReportsLine, answer_text, irp_line_text, rest_text, claim_line, exchanged_irp, Closes, IsScheduleAnswer}
use Rattle.csq_explain.specs.Endings.{irp_sentence, rest_sentence}
use Rattle.csq_explain.specs.Reasons.{reason_of, reason_text}
use Rattle.csq_explain.specs.Sentences.{in_call, sentence}

-- a line of its own, two spaces in
abbrev pub remark : List ℕ → List ℕ
remark text = codes "  " ++ (text ++ codes "\n")

-- what follows the answer to a line of which this came, after the steps W
abbrev pub line_remark : Size → List Numbered → Outcome → List ℕ
line_remark size W Skipped = []
line_remark size W (Accepted m) = remark (sentence (in_call (run_of W) m))
line_remark size W (Stopped stop) = remark (reason_text (reason_of size W stop))

-- the answer to the nth line, and a sentence
abbrev pub explained_text : Size → List Numbered → ℕ → List ℕ → Outcome → List ℕ
explained_text size W n line comes = answer_text W n line comes ++ line_remark size W comes

abbrev pub ExplainsLine : Size → List Numbered → ℕ → List ℕ → List ℕ → Option (List Numbered) → Type 0
ExplainsLine size = ReportsLine (explained_text size) size

-- of each IRP that is reported its closing line, and a sentence
abbrev pub explained_irps : List IrpLine → List ℕ
explained_irps [] = []
explained_irps (line ∷ lines) = ((irp_line_text line ++ codes "\n") ++ remark (irp_sentence line)) ++ explained_irps lines

-- whether all is at rest, and a sentence
abbrev pub explained_rest : Bool → List ℕ
explained_rest rest = (rest_text rest ++ codes "\n") ++ remark (rest_sentence rest)

-- what is said of a claim
abbrev pub claim_remark : Made → List ℕ
claim_remark m = option_map_or
    (λ i. if is_claim i m then codes "  IRP " ++ (name_text i ++ (codes " was claimed by " ++ (pass_text m.pass ++ codes ", whose exchange found the cancel routine\n"))) else [])
    (exchanged_irp m.kind) []

-- a line for each claim, and a sentence, by rising line
abbrev pub explained_claims : List Numbered → List ℕ
explained_claims [] = []
explained_claims (w ∷ W) = (explained_claims W ++ claim_line w) ++ claim_remark w.step

-- the closing lines after the steps W, each with a sentence, with the claims where they are asked for
abbrev pub IsExplainedClosing : Size → Bool → List Numbered → List ℕ → Type 0
IsExplainedClosing size claims W text = (reported : List IrpLine) × (rest : Bool) × Closes size (run_of W) reported rest
    × (text ≡ explained_irps reported ++ (explained_rest rest ++ (if claims then explained_claims W else [])))

-- a schedule is answered this text, which explains it
abbrev pub IsExplanation : Size → Bool → List ℕ → List ℕ → Ended → Type 0
IsExplanation size claims = IsAnswer (ExplainsLine size) (IsExplainedClosing size claims) []

-- a schedule is answered this text, with a sentence after each line where these are asked for
abbrev pub IsScheduleText : Bool → Size → Bool → List ℕ → List ℕ → Ended → Type 0
IsScheduleText true = IsExplanation
IsScheduleText false = IsScheduleAnswer
