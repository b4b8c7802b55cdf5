-- Where an answer lies that a page asked for.
use Rattle.std.specs.Prelude.{◌≡◌, ◌≤◌, ℕ, Bool, false, List, length, Option, None, take, if◌then◌else◌, ⊤}
use Rattle.csq_replay.specs.declared.lines.answer.Ended.{Ended}
use Rattle.csq_replay.specs.declared.lines.answer.Ended.TheVariants as ended
use Rattle.csq_replay.specs.declared.lines.Ending.{Ending}
use Rattle.csq_replay.specs.Lines.{IsAnswerUntil, ended_of}
use Rattle.csq_diagnose.specs.Reports.{IsEndDiagnosis}
use Rattle.csq_draw.specs.declared.view.Format.TheVariants.{Svg, Text}
use Rattle.irp_core.specs.Runs.{Size}
use Rattle.csq_explain.specs.Executions.{StopsFor}
use Rattle.csq_explain.specs.WrongOrders.{WrongLine, WrongCloses, new_wrong}
use Rattle.csq_draw.specs.declared.view.PictureView.{PictureView}
use Rattle.csq_draw.specs.Drawings.{NotesLine, new_drawn}
use Rattle.csq_diagnose.specs.Schedules.{IsScheduleDiagnosis, ReportsReason}
use Rattle.csq_page.specs.declared.codes.Code.{Code, TheVariants.{Handled, Stopped}}
use Rattle.csq_page.specs.declared.hand_out.Lengths.{Lengths}
use Rattle.csq_page.specs.Codes.{number_of}

-- an answer that ended so and its diagnosis lie in front in their places, in as many bytes as are told
abbrev pub IsInPlace : (List ℕ → List ℕ → Ended → Type 0) → List ℕ → List ℕ → Lengths → Ended → Type 0
IsInPlace is text diagnosis lengths ended = (lengths.answer ≤ length text) × (lengths.diagnosis ≤ length diagnosis) × is (take lengths.answer text) (take lengths.diagnosis diagnosis) ended

-- if the code is one of an answer, they do
abbrev pub IsTold : (List ℕ → List ℕ → Ended → Type 0) → List ℕ → List ℕ → Lengths → Code → Type 0
IsTold is text diagnosis lengths Handled = IsInPlace is text diagnosis lengths ended.AllHandled
IsTold is text diagnosis lengths Stopped = IsInPlace is text diagnosis lengths ended.Stopped
IsTold is text diagnosis lengths _ = ⊤

-- what an export returned is the number of this code
abbrev pub Tells : (List ℕ → List ℕ → Ended → Type 0) → List ℕ → List ℕ → Lengths → ℕ → Type 0
Tells is text diagnosis lengths result = (code : Code) × (result ≡ number_of code) × IsTold is text diagnosis lengths code

-- both an answer to the input and a diagnosis of it
abbrev pub Both : (List ℕ → List ℕ → Ended → Type 0) → (List ℕ → List ℕ → Ended → Type 0) → List ℕ → List ℕ → List ℕ → Ended → Type 0
Both is_answer is_diagnosis input answer diagnosis ended = is_answer input answer ended × is_diagnosis input diagnosis ended

-- the answer to an input, with the diagnosis of its end, as `IsReportUntil` has them of a report
pub record AnswersUntil {S W : Type 0} (answers : S → ℕ → List ℕ → List ℕ → Option S → Type 0) (stops : S → ℕ → List ℕ → W → Type 0) (closes : S → List ℕ → Type 0)
    (reports : W → ℕ → List ℕ → List ℕ → Type 0) (s : S) (input answer diagnosis : List ℕ) (ended : Ended) : Type 0 where
  pub end : Ending W
  pub answered : IsAnswerUntil answers stops closes s input answer end
  pub diagnosed : IsEndDiagnosis reports end diagnosis
  pub ends : ended ≡ ended_of end

-- a schedule that may break the protocol is followed so, with its diagnosis
abbrev pub TellsWrong : Size → List ℕ → List ℕ → List ℕ → Ended → Type 0
TellsWrong size = AnswersUntil (WrongLine size) (λ d. StopsFor size d.own) (WrongCloses size) ReportsReason new_wrong

-- the drawing of a schedule ended so, past its refused steps or at the first one, which then has the schedule's diagnosis. (What is drawn is csq_draw's to say.)
abbrev pub TellsDrawing : Size → Bool → List ℕ → List ℕ → List ℕ → Ended → Type 0
TellsDrawing size wrong input answer diagnosis ended = AnswersUntil (NotesLine size wrong) (λ d. StopsFor size d.own) (λ d text. Unit {0}) ReportsReason new_drawn input answer diagnosis ended
    × (wrong ≡ false → IsScheduleDiagnosis size input diagnosis ended)

-- the whole, as text or as a picture
abbrev pub view_of : Bool → Bool → PictureView
view_of as_text wrong = record { format = if as_text then Text else Svg; window = None; wrong = wrong }
