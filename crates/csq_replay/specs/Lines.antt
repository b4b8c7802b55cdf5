-- How lines are answered, one after the other: those of a schedule, and those of a script.
use Rattle.std.specs.Prelude.{◌≡◌, ℕ, ◌+◌, ◌<◌, ◌≤◌, List, [], ◌∷◌, ◌++◌, length, codes, decimal, Option, Some, None, IfNone}
use Rattle.std.specs.Io.KnownBytes.{Appends}
use Rattle.csq_replay.specs.declared.lines.answer.Ended.{Ended, TheVariants.{AllHandled, Stopped}}
use Rattle.csq_replay.specs.declared.lines.Ending.{Ending}
use Rattle.csq_replay.specs.declared.lines.Ending.TheVariants as ending
use Rattle.csq_replay.specs.Inputs.{input_limit, ReadsInput}
use Rattle.csq_replay.specs.Pieces.{lines_of}

-- a line may have so many bytes
abbrev pub IsWithinLine : List ℕ → Type 0
IsWithinLine line = length line ≤ 64

-- an empty line, or one that begins with #
abbrev pub IsSkipped : List ℕ → Type 0
IsSkipped [] = Unit {0}
IsSkipped (byte ∷ more) = byte ≡ 35

-- what is said of the nth line
abbrev pub of_line : ℕ → List ℕ → List ℕ
of_line n text = codes "line " ++ (decimal n ++ (codes " " ++ text))

-- a text grew by this
abbrev pub GrewBy : List ℕ → List ℕ → List ℕ → Type 0
GrewBy old new added = new ≡ old ++ added

-- where a line's handling left what answers: at the state that the line led to, or at the end, for a reason that fits
abbrev pub Leaves : {S W : Type 0} → (S → Type 0) → (W → Type 0) → Option W → Option S → Type 0
Leaves stands fits None (Some s) = stands s
Leaves stands fits (Some why) None = fits why
Leaves stands fits _ _ = ⊥

-- after s these lines, from the nth on, are answered this text: each line as `answers` says, up to the first that leads nowhere, and
-- if there is none the closing lines
pub data AnswersAll {S : Type 0} (answers : S → ℕ → List ℕ → List ℕ → Option S → Type 0) (closes : S → List ℕ → Type 0) : S → ℕ → List (List ℕ) → List ℕ → Ended → Type 0 where
  all_handled : (s : S) (n : ℕ) (text : List ℕ) → closes s text → AnswersAll answers closes s n [] text AllHandled
  goes_on : (s t : S) (n : ℕ) (line : List ℕ) (lines : List (List ℕ)) (text rest : List ℕ) (ended : Ended)
      → answers s n line text (Some t) → AnswersAll answers closes t (n + 1) lines rest ended
      → AnswersAll answers closes s n (line ∷ lines) (text ++ rest) ended
  stops : (s : S) (n : ℕ) (line : List ℕ) (lines : List (List ℕ)) (text : List ℕ)
      → answers s n line text None → AnswersAll answers closes s n (line ∷ lines) text Stopped

-- after s an input is answered this text
pub data IsAnswer {S : Type 0} (answers : S → ℕ → List ℕ → List ℕ → Option S → Type 0) (closes : S → List ℕ → Type 0) (s : S) (input : List ℕ) : List ℕ → Ended → Type 0 where
  too_long_input : input_limit < length input → IsAnswer answers closes s input (codes "input too long\n") Stopped
  answered : (text : List ℕ) (ended : Ended) → length input ≤ input_limit → AnswersAll answers closes s 1 (lines_of input) text ended
      → IsAnswer answers closes s input text ended

-- an end, whatever the line and the reason
abbrev pub ended_of : {W : Type 0} → Ending W → Ended
ended_of ending.AllHandled = AllHandled
ended_of ending.TooLong = Stopped
ended_of (ending.StoppedAt line why) = Stopped

-- the handling ended at the nth line, for a reason that fits
abbrev pub IsEndAt : {W : Type 0} → ℕ → List ℕ → (W → Type 0) → Ending W → Type 0
IsEndAt n line fits (ending.StoppedAt at why) = (at.number ≡ n) × (at.bytes.now ≡ line) × fits why
IsEndAt n line fits _ = ⊥

-- after s the nth line is answered this text; and if it leads nowhere, the handling ended so, at this line
abbrev pub AnswersUntil : {S W : Type 0} → (S → ℕ → List ℕ → List ℕ → Option S → Type 0) → (S → ℕ → List ℕ → W → Type 0) → Ending W → S → ℕ → List ℕ → List ℕ → Option S → Type 0
AnswersUntil answers fits end s n line text more = answers s n line text more × IfNone more (IsEndAt n line (fits s n line) end)

-- after s an input is answered this text, and its handling ended so
pub record IsAnswerUntil {S W : Type 0} (answers : S → ℕ → List ℕ → List ℕ → Option S → Type 0) (fits : S → ℕ → List ℕ → W → Type 0) (closes : S → List ℕ → Type 0) (s : S) (input text : List ℕ) (end : Ending W) : Type 0 where
  pub answer : IsAnswer (AnswersUntil answers fits end) closes s input text (ended_of end)
  pub long : input_limit < length input → end ≡ ending.TooLong

-- of a reader and a writer whose bytes are known: an input was read, and its answer was written
abbrev pub RepliesTo : (List ℕ → List ℕ → Ended → Type 0) → Option (List ℕ) → Option (List ℕ) → Option (List ℕ) → Option (List ℕ) → Ended → Type 0
RepliesTo is_answer unread left held holds ended =
    (input : List ℕ) × (text : List ℕ) × ReadsInput unread left input × is_answer input text ended × Appends held holds text
