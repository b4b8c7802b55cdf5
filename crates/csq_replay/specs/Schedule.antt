-- What a schedule is answered.
use Rattle.std.specs.Prelude.{◌≡◌, ◌↔◌, ℕ, zero, suc, ◌==◌, Bool, false, List, [], ◌∷◌, ◌++◌, map, codes, decimal, Option, Some, None, IsTrue, if◌then◌else◌}
use Rattle.std.specs.Option.{option_map_or}
use Rattle.irp_core.specs.declared.step.{Kind.{Kind, TheVariants.{Disarm, Take}}, Made.{Made}}
use Rattle.irp_core.specs.declared.standing.IrpPlace.{IrpPlace, TheVariants.{Home}}
use Rattle.irp_core.specs.Steps.{life_of}
use Rattle.irp_core.specs.declared.ids.IrpLife.{IrpLife}
use Rattle.irp_core.specs.Words.{bit, flagged}
use Rattle.irp_core.specs.Owners.{is_claim}
use Rattle.irp_core.specs.Lives.{present}
use Rattle.irp_core.specs.Completion.{IsPlace}
use Rattle.irp_core.specs.Runs.{Size, IsAtRest}
use Rattle.irp_core.specs.Texts.{name_text, pass_text, place_text}
use Rattle.csq_replay.specs.declared.lines.answer.Ended.{Ended}
use Rattle.csq_replay.specs.declared.schedule.closing.IrpLine.{IrpLine}
use Rattle.csq_replay.specs.declared.schedule.outcome.Outcome.{Outcome, TheVariants.{Skipped, Accepted, Stopped}}
use Rattle.csq_replay.specs.Lines.{of_line, IsAnswer, RepliesTo}
use Rattle.csq_replay.specs.Outcomes.{ComesTo, stop_text}

-- a step that was made, and the number of its line
pub record Numbered : Type 0 where
  pub line : ℕ
  pub step : Made

-- the run of these steps
abbrev pub run_of : List Numbered → List Made
run_of W = map (λ w. w.step) W

-- the steps with which the handling goes on after the nth line, if it does
abbrev pub grown : List Numbered → ℕ → Outcome → Option (List Numbered)
grown W n Skipped = Some W
grown W n (Accepted m) = Some (record { line = n; step = m } ∷ W)
grown W n (Stopped stop) = None

-- after the steps W the nth line is reported so: by what comes of it, which W grows by
abbrev pub ReportsLine : (List Numbered → ℕ → List ℕ → Outcome → List ℕ) → Size → List Numbered → ℕ → List ℕ → List ℕ → Option (List Numbered) → Type 0
ReportsLine report size W n line text more = (comes : Outcome) × ComesTo size (run_of W) line comes × (text ≡ report W n line comes) × (more ≡ grown W n comes)

-- the answer to the nth line, of which this came
abbrev pub answer_text : List Numbered → ℕ → List ℕ → Outcome → List ℕ
answer_text W n line Skipped = []
answer_text W n line (Accepted m) = line ++ (codes " found " ++ (decimal m.found ++ codes "\n"))
answer_text W n line (Stopped stop) = of_line n (stop_text stop ++ codes "\n")

abbrev pub AnswersLine : Size → List Numbered → ℕ → List ℕ → List ℕ → Option (List Numbered) → Type 0
AnswersLine = ReportsLine answer_text

-- whether i is home in life 0, with a clear Cancel flag
abbrev pub is_untouched : IrpPlace → Bool → IrpLife → Bool
is_untouched Home false i = life_of i == 0
is_untouched _ _ i = false

-- such an IRP isn't reported
abbrev pub is_silent : IrpLine → Bool
is_silent line = is_untouched line.place line.cancelled line.name

-- an IRP in its present life, where it is, and its Cancel flag
abbrev pub irp_line_text : IrpLine → List ℕ
irp_line_text line = codes "irp " ++ (name_text line.name ++ (codes " " ++ (place_text line.place ++ (codes " cancel " ++ decimal (bit line.cancelled)))))

abbrev pub irp_lines_text : List IrpLine → List ℕ
irp_lines_text [] = []
irp_lines_text (line ∷ lines) = (irp_line_text line ++ codes "\n") ++ irp_lines_text lines

-- the line, unless it isn't reported
abbrev pub unless_silent : IrpLine → List IrpLine
unless_silent line = if is_silent line then [] else line ∷ []

-- what is reported, if anything is
abbrev pub reported_of : Option IrpLine → List IrpLine
reported_of (Some line) = line ∷ []
reported_of None = []

-- so i is reported after E
abbrev pub IsReportedOf : List Made → IrpLife → List IrpLine → Type 0
IsReportedOf E i reported = (place : IrpPlace) × IsPlace E i place × (reported ≡ unless_silent (record { name = i; place = place; cancelled = flagged E i }))

-- so the first IRPs are reported in their present lives, by rising number
abbrev pub AreReportedOf : ℕ → List Made → ℕ → List IrpLine → Type 0
AreReportedOf first E zero reported = reported ≡ []
AreReportedOf first E (suc n) reported = (before : List IrpLine) × (last : List IrpLine) × AreReportedOf first E n before
    × IsReportedOf E (present first E (record { 0 = n })) last × (reported ≡ before ++ last)

-- whether all is at rest
abbrev pub rest_text : Bool → List ℕ
rest_text rest = if rest then codes "rest yes" else codes "rest no"

-- it says whether E is at rest
abbrev pub ReportsRest : List Made → Bool → Type 0
ReportsRest E rest = (IsTrue rest) ↔ IsAtRest E

-- the IRP whose routine a step of this kind takes out
abbrev pub exchanged_irp : Kind → Option IrpLife
exchanged_irp (Disarm i) = Some i
exchanged_irp (Take i) = Some i
exchanged_irp _ = None

-- of a step that claims a life of an IRP
abbrev pub claim_line : Numbered → List ℕ
claim_line w = option_map_or
    (λ i. if is_claim i w.step then codes "claim " ++ (name_text i ++ (codes " line " ++ (decimal w.line ++ (codes " " ++ (pass_text w.step.pass ++ codes "\n"))))) else [])
    (exchanged_irp w.step.kind) []

-- a line for each claim, by rising line
abbrev pub claim_lines : List Numbered → List ℕ
claim_lines [] = []
claim_lines (w ∷ W) = claim_lines W ++ claim_line w

-- what is reported in the end, after the run E
pub record Closes (size : Size) (E : List Made) (reported : List IrpLine) (at_rest : Bool) : Type 0 where
  pub irps : AreReportedOf size.first E size.irps reported
  pub rest : ReportsRest E at_rest

-- the closing lines after the steps W, with the claims where they are asked for
abbrev pub IsClosing : Size → Bool → List Numbered → List ℕ → Type 0
IsClosing size claims W text = (reported : List IrpLine) × (rest : Bool) × Closes size (run_of W) reported rest
    × (text ≡ irp_lines_text reported ++ ((rest_text rest ++ codes "\n") ++ (if claims then claim_lines W else [])))

-- a schedule is answered this text
abbrev pub IsScheduleAnswer : Size → Bool → List ℕ → List ℕ → Ended → Type 0
IsScheduleAnswer size claims = IsAnswer (AnswersLine size) (IsClosing size claims) []

-- of a reader and a writer whose bytes are known: a schedule was read, and its answer was written
abbrev pub RepliesToSchedule : Size → Bool → Option (List ℕ) → Option (List ℕ) → Option (List ℕ) → Option (List ℕ) → Ended → Type 0
RepliesToSchedule size claims = RepliesTo (IsScheduleAnswer size claims)
