-- What holds of every picture.
use Rattle.std.specs.Prelude.{◌≤◌, ◌≡◌, ◌≢◌, ◌⊎◌, ◌↔◌, ℕ, zero, suc, ◌+◌, ◌==◌, ◌&&◌, ◌<◌, Bool, true, false, List, [], ◌∷◌, ◌++◌, filter, length, map, Option, Some, None, option_to_list, IsTrue, if◌then◌else◌}
use Rattle.std.specs.List.{list_any}
use Rattle.std.specs.Option.{option_map_or}
use Rattle.irp_core.specs.declared.ids.{IrpId.{IrpId}, IrpLife.{IrpLife}, PassId.{PassId}}
use Rattle.irp_core.specs.declared.step.{Kind.{Kind, TheVariants.{Arm, Test, Disarm, Flag, Take, Renew, Rearm}}, Made.{Made}}
use Rattle.irp_core.specs.Lives.{present}
use Rattle.irp_core.specs.Lock.{HasLock, needs_lock}
use Rattle.irp_core.specs.Owners.{owes, holds}
use Rattle.irp_core.specs.Runs.{Size, IsRun}
use Rattle.irp_core.specs.Steps.{by, name_of, same_pass}
use Rattle.csq_replay.specs.declared.schedule.closing.IrpLine.{IrpLine}
use Rattle.csq_replay.specs.declared.schedule.outcome.Stop.{Stop}
use Rattle.csq_replay.specs.Schedule.{Numbered, run_of}
use Rattle.csq_draw.specs.declared.view.Window.{Window}
use Rattle.csq_draw.specs.declared.marks.{Legality.TheVariants.{Legal}, Mark.{Mark}, Number.{Number}, Shade.{Shade}}
use Rattle.csq_draw.specs.declared.owners.{Having.{Having, TheVariants.{Owes, Holds}}, Owner.{Owner}}
use Rattle.csq_explain.specs.declared.word_values.WordValues.{WordValues}
use Rattle.csq_explain.specs.declared.passes.PassNow.{PassNow}
use Rattle.csq_draw.specs.Lanes.{is_in_lane, is_taken}
use Rattle.csq_draw.specs.declared.arrows.Arrow.{Arrow}
use Rattle.csq_draw.specs.declared.bars.Bars.{Bars}
use Rattle.csq_draw.specs.declared.irps.{IrpNow.{IrpNow}, LastSeen.{LastSeen}, Spot.{Spot}}
use Rattle.csq_draw.specs.Marks.{takes_lock, lets_go}
use Rattle.csq_draw.specs.Owners.{is_of_irp, owner, owners}
use Rattle.csq_draw.specs.Passes.{columns, column_of, makes_step}
use Rattle.csq_explain.specs.Passes.{all_passes}
use Rattle.csq_explain.specs.declared.sentences.StepInCall.{StepInCall}
use Rattle.csq_explain.specs.Sentences.{in_call}
use Rattle.csq_draw.specs.declared.rows.Row.{Row}
use Rattle.csq_draw.specs.Rows.{row_of, rows_of}
use Rattle.csq_draw.specs.Windows.{is_shown, shows}
use Rattle.csq_draw.specs.Words.{words_named, changes_flag}
use Rattle.csq_draw.specs.declared.element.Element.{Element}
use Rattle.csq_draw.specs.declared.element.Element.TheVariants as element
use Rattle.csq_draw.specs.declared.refusals.FirstRefusal.{FirstRefusal}
use Rattle.csq_draw.specs.Pictures.{EndShown, Shown, broken_end, close_of, irps_of, picture_of, place_named, seen, steps_shown, stop_of, stopped_end}
use Rattle.csq_draw.specs.Drawings.{Drawn, order_shown}
use Rattle.csq_draw.specs.Irps.{irp_column}
use Rattle.csq_explain.specs.WordValues.{words_of}
use Rattle.csq_explain.specs.declared.harms.HarmAt.{HarmAt}
use Rattle.csq_explain.specs.declared.reasons.Reason.{Reason}

-- what is picked out of these elements, in order
abbrev pub picked : {A : Type 0} → (Element → List A) → List Element → List A
picked pick [] = []
picked pick (e ∷ es) = pick e ++ picked pick es

-- what each of the steps W adds to what those before it did, in order
abbrev pub added : {A : Type 0} → (Numbered → List Numbered → List A) → List Numbered → List A
added of_step [] = []
added of_step (w ∷ W) = added of_step W ++ of_step w W

-- the picture of the steps W, and of how it ends
abbrev pub steps_picture : Size → List Numbered → EndShown → List Element
steps_picture size W e = picture_of (steps_shown size W) (length (rows_of size W)) e

-- of the picture of the steps W, and of the nth line, which ended the handling: what is picked out of it is what each step adds, in order, and then this of that line; and of the one of the steps and of what is reported in the end it is what each step adds
pub record AddsStepByStep {A : Type 0} (size : Size) (W : List Numbered) (pick : Element → List A) (of_step : Numbered → List Numbered → List A) (of_line : ℕ → List A) : Type 0 where
  pub stopped : (n : ℕ) (stop : Stop) → picked pick (steps_picture size W (stop_of size W n stop)) ≡ added of_step W ++ of_line n
  pub closed : (reported : List IrpLine) (at_rest : Bool) → picked pick (steps_picture size W (close_of size W reported at_rest)) ≡ added of_step W

-- what these pick out of an element: of a mark, of the number of a line, of a shade, of an arrow, and nothing out of any other
abbrev pub pick_of : {A : Type 0} → (Mark → List A) → (Number → List A) → (Shade → List A) → (Arrow → List A) → Element → List A
pick_of mark number shade arrow (element.Mark m) = mark m
pick_of mark number shade arrow (element.Number n) = number n
pick_of mark number shade arrow (element.Shade s) = shade s
pick_of mark number shade arrow (element.Arrow a) = arrow a
pick_of mark number shade arrow _ = []

-- an element's mark, if it is one
abbrev pub mark_in : Element → List Mark
mark_in = pick_of (λ m. m ∷ []) (λ n. []) (λ s. []) (λ a. [])

-- its number of a line, if it is one
abbrev pub number_in : Element → List Number
number_in = pick_of (λ m. []) (λ n. n ∷ []) (λ s. []) (λ a. [])

-- its shade, if it is one
abbrev pub shade_in : Element → List Shade
shade_in = pick_of (λ m. []) (λ n. []) (λ s. s ∷ []) (λ a. [])

-- its arrow, if it is one
abbrev pub arrow_in : Element → List Arrow
arrow_in = pick_of (λ m. []) (λ n. []) (λ s. []) (λ a. a ∷ [])

-- the words that a mark shows, if an element is one and shows any
abbrev pub words_in : Element → List WordValues
words_in = pick_of (λ m. option_to_list m.words) (λ n. []) (λ s. []) (λ a. [])

-- the mark of a step after the steps W: on the row of its number, in the column of its pass, with the value that it found, and with the words of its IRP at the IRP's place
abbrev pub mark_of : Size → List PassNow → List IrpNow → Numbered → List Numbered → List Mark
mark_of size passes irps w W = record {
  row = length W;
  column = column_of passes w.step.pass;
  columns = columns passes;
  place = place_named irps w.step.kind;
  step = in_call (run_of W) w.step;
  legality = Legal;
  words = words_named size.first (run_of (w ∷ W)) w.step.kind;
} ∷ []

-- after a step of an IRP: whether the Cancel flag and the cancel routine of its present life are set
abbrev pub words_after : Size → Numbered → List Numbered → List WordValues
words_after size w W = option_to_list (words_named size.first (run_of (w ∷ W)) w.step.kind)

-- the number of its line, on that row
abbrev pub line_number : Numbered → List Numbered → List Number
line_number w W = record { row = length W; line = w.line } ∷ []

-- on the row of a step, of the pass that has the lock: a shade in its column, which is the first of its time if the step takes the lock, and the last if it lets the lock go
abbrev pub shade_by : List PassNow → ℕ → StepInCall → Option PassId → List Shade
shade_by passes row step (Some p) = record { row = row; column = column_of passes p; first = takes_lock step; last = lets_go step } ∷ []
shade_by passes row step None = []

-- the shade behind a step
abbrev pub shade_of : Size → List PassNow → Numbered → List Numbered → List Shade
shade_of size passes w W = shade_by passes (length W) (in_call (run_of W) w.step) (row_of size w W).lock

-- whether a step of this kind that writes the Cancel flag sets it
abbrev pub sets_flag : Kind → Bool
sets_flag (Flag i) = true
sets_flag _ = false

-- and one that writes the cancel routine
abbrev pub sets_routine : Kind → Bool
sets_routine (Arm i) = true
sets_routine (Rearm i) = true
sets_routine _ = false

-- whether a step of this kind that found this value wrote the cancel routine, or began it anew (an arm writes it whatever it finds)
abbrev pub writes_routine : Kind → ℕ → Bool
writes_routine (Arm i) found = true
writes_routine (Disarm i) found = found == 1
writes_routine (Take i) found = found == 1
writes_routine (Renew i) found = true
writes_routine (Rearm i) found = true
writes_routine _ found = false

-- where the newest of the steps W stands that wrote a word of IRP n, if it set the word
abbrev pub set_in : (Kind → ℕ → Bool) → (Kind → Bool) → IrpId → List Numbered → Option Spot
set_in writes sets n [] = None
set_in writes sets n (w ∷ W) = if is_of_irp n w.step.kind && writes w.step.kind w.step.found then (if sets w.step.kind then Some (record { row = length W; line = w.line; pass = w.step.pass }) else None) else set_in writes sets n W

-- who set what this kind of step, which found this value, found set after the steps W
abbrev pub setter : Kind → ℕ → List Numbered → Option Spot
setter (Test i) found W = if found == 1 then set_in changes_flag sets_flag i.irp W else None
setter (Flag i) found W = if found == 1 then set_in changes_flag sets_flag i.irp W else None
setter (Disarm i) found W = if found == 1 then set_in writes_routine sets_routine i.irp W else None
setter (Take i) found W = if found == 1 then set_in writes_routine sets_routine i.irp W else None
setter _ found W = None

-- an arrow to a step of p on this row, of this line, from the spot of another pass
abbrev pub arrow_to : List PassNow → PassId → ℕ → ℕ → Option Spot → List Arrow
arrow_to passes p row line (Some spot) = if same_pass spot.pass p then [] else record { from_column = column_of passes spot.pass; from = spot; column = column_of passes p; row = row; line = line } ∷ []
arrow_to passes p row line None = []

-- the arrow to a step: from the newest step that wrote the word that it found set
abbrev pub arrow_of : List PassNow → Numbered → List Numbered → List Arrow
arrow_of passes w W = arrow_to passes w.step.pass (length W) w.line (setter w.step.kind w.step.found W)

-- the pair of bars of an IRP's two words, if an element is one
abbrev pub bars_in : Element → List Bars
bars_in (element.Bars b) = b ∷ []
bars_in _ = []

-- the row of the newest of the steps W that names IRP n, and the words of that IRP's present life after that step, by the run
abbrev pub last_seen : Size → IrpId → List Numbered → Option LastSeen
last_seen size n [] = None
last_seen size n (w ∷ W) = if is_of_irp n w.step.kind then Some (record { row = length W; words = words_of (run_of (w ∷ W)) (present size.first (run_of (w ∷ W)) n) }) else last_seen size n W

-- the bars at a place of what was seen last of an IRP: from there to a row, or to the end
abbrev pub bars_from : List PassNow → ℕ → ℕ → Bool → Option LastSeen → List Bars
bars_from passes place to to_the_end (Some seen) = record { columns = columns passes; place = place; from = seen.row; to = to; to_the_end = to_the_end; words = seen.words } ∷ []
bars_from passes place to to_the_end None = []

-- the bars of IRP n to a row, or to the end: from the newest of the steps W that names it, at its place
abbrev pub bars_of : Size → List PassNow → List IrpNow → List Numbered → Bool → IrpId → List Bars
bars_of size passes irps W to_the_end n = bars_from passes (irp_column irps n) (length W) to_the_end (last_seen size n W)

-- the bars to a step after the steps W, if it names an IRP
abbrev pub bars_to : Size → List PassNow → List IrpNow → Numbered → List Numbered → List Bars
bars_to size passes irps w W = option_map_or (λ i. bars_of size passes irps W false i.irp) (name_of w.step.kind) []

-- the bars of the first n IRPs to the end
abbrev pub bars_to_end : Size → List PassNow → List IrpNow → List Numbered → ℕ → List Bars
bars_to_end size passes irps W zero = []
bars_to_end size passes irps W (suc n) = bars_to_end size passes irps W n ++ bars_of size passes irps W true (record { 0 = n })

-- the bars of the steps W: those to the end, and those to each step, in order
abbrev pub bars : Size → List PassNow → List IrpNow → List Numbered → List Bars
bars size passes irps W = bars_to_end size passes irps W size.irps ++ added (bars_to size passes irps) W

-- each step has one mark, in order, and nothing else has one
abbrev pub EachStepHasOneMark : Size → List Numbered → Type 0
EachStepHasOneMark size W = AddsStepByStep size W mark_in (mark_of size (all_passes size W) (irps_of size W)) (λ n. [])

-- each step of an IRP shows the two words of that after it, by the run, and no other step shows any
abbrev pub EachStepShowsItsWords : Size → List Numbered → Type 0
EachStepShowsItsWords size W = AddsStepByStep size W words_in (words_after size) (λ n. [])

-- each step has the number of its line, in order, and then the line that ended the handling has its own
abbrev pub EachLineHasItsNumber : Size → List Numbered → Type 0
EachLineHasItsNumber size W = AddsStepByStep size W number_in line_number (λ n. record { row = length W; line = n } ∷ [])

-- a shade stands where a pass has the lock as a step is made, and nowhere else
abbrev pub EachShadeIsOfTheLock : Size → List Numbered → Type 0
EachShadeIsOfTheLock size W = AddsStepByStep size W shade_in (shade_of size (all_passes size W)) (λ n. [])

-- of a run, an arrow runs to each step that found a word set from the step of another pass that set it, and there are no others
abbrev pub EachArrowIsFromTheWrite : Size → List Numbered → Type 0
EachArrowIsFromTheWrite size W = IsRun size (run_of W) → AddsStepByStep size W arrow_in (arrow_of (all_passes size W)) (λ n. [])

-- of a run, from each step of an IRP a pair of bars runs to the next step of that IRP, or to the end if there is none, at the place of that IRP; it shows the words after the step that it runs from, by the run, and there are no others
pub record EachBarShowsTheWords (size : Size) (W : List Numbered) : Type 0 where
  pub stopped : IsRun size (run_of W) → (n : ℕ) (stop : Stop) → picked bars_in (steps_picture size W (stop_of size W n stop)) ≡ bars size (all_passes size W) (irps_of size W) W
  pub closed : IsRun size (run_of W) → (reported : List IrpLine) (at_rest : Bool) → picked bars_in (steps_picture size W (close_of size W reported at_rest)) ≡ bars size (all_passes size W) (irps_of size W) W

-- the mark of a row, which is drawn as the nth one, among these passes and IRPs
abbrev pub mark_on : List PassNow → List IrpNow → ℕ → Row → Mark
mark_on passes irps n row = record {
  row = n;
  column = column_of passes row.step.made.pass;
  columns = columns passes;
  place = place_named irps row.step.made.kind;
  step = row.step;
  legality = row.legality;
  words = row.words;
}

-- the marks of rows, each on its own
abbrev pub marks : List PassNow → List IrpNow → List Row → List Mark
marks passes irps rows = map (λ row. mark_on passes irps row.row row) rows

-- and on those from the nth on
abbrev pub marks_from : List PassNow → List IrpNow → ℕ → List Row → List Mark
marks_from passes irps n [] = []
marks_from passes irps n (row ∷ rows) = mark_on passes irps n row ∷ marks_from passes irps (n + 1) rows

-- the marks of a picture that ends so
abbrev pub marks_in : Shown → EndShown → List Mark
marks_in s e = picked mark_in (picture_of s (length s.rows) e)

-- of the picture of an order that broke the protocol so: each step up to the refusal has the mark that it has in any picture with these columns, and each row from the refused step on has its own
abbrev pub order_marks : Size → Drawn → Shown → List Mark
order_marks size d s = added (mark_of size s.passes s.irps) d.kept ++ marks s.passes s.irps d.later

pub record EachStepOfAnOrderHasOneMark (size : Size) (d : Drawn) (refusal : FirstRefusal) : Type 0 where
  pub stopped : (n : ℕ) (reason : Reason) → marks_in (order_shown size d refusal) (stopped_end n reason) ≡ order_marks size d (order_shown size d refusal)
  pub broken : (n : ℕ) (reason : Reason) (harms : List HarmAt) → marks_in (order_shown size d refusal) (broken_end n reason harms) ≡ order_marks size d (order_shown size d refusal)

-- what a window shows of the steps W: its passes and IRPs, and the marks of those steps that it shows, on the rows from the first on
abbrev pub window_shown : Size → List Numbered → Window → Shown
window_shown size W w = seen (Some w) (steps_shown size W)

abbrev pub window_marks : Size → List Numbered → Window → List Mark
window_marks size W w = marks_from (window_shown size W w).passes (window_shown size W w).irps 0 (filter (shows w) (rows_of size W))

-- each step that a window shows has one mark, in order, and nothing else has one
pub record EachShownStepHasOneMark (size : Size) (W : List Numbered) (w : Window) : Type 0 where
  pub stopped : (n : ℕ) (stop : Stop) → marks_in (window_shown size W w) (stop_of size W n stop) ≡ window_marks size W w
  pub closed : (reported : List IrpLine) (at_rest : Bool) → marks_in (window_shown size W w) (close_of size W reported at_rest) ≡ window_marks size W w

-- passes that made a step of the run have columns of their own, in the order of their numbers
abbrev pub EachPassHasItsColumn : Size → List Numbered → Type 0
EachPassHasItsColumn size W = (p q : PassId) → p.0 < q.0 → p.0 < size.passes → IsTrue (list_any (by p) (run_of W)) → column_of (all_passes size W) p < column_of (all_passes size W) q

-- in a window just those passes have columns that its rows show, or its owners after them, in the order of their numbers
pub record EachShownPassHasItsColumn (size : Size) (W : List Numbered) (w : Window) : Type 0 where
  pub just : (p : PassId) → p.0 ≤ size.passes → makes_step (window_shown size W w).passes p ≡ is_shown (window_shown size W w).rows (window_shown size W w).owners p
  pub own : (p q : PassId) → p.0 < q.0 → p.0 ≤ size.passes → IsTrue (is_shown (window_shown size W w).rows (window_shown size W w).owners p) → column_of (window_shown size W w).passes p < column_of (window_shown size W w).passes q

-- IRPs that a step of the run names have places of their own, in the order of their numbers
abbrev pub EachIrpHasItsPlace : Size → List Numbered → Type 0
EachIrpHasItsPlace size W = IsRun size (run_of W) → (n k : IrpId) → n.0 < k.0 → IsTrue (list_any (λ m. is_of_irp n m.kind) (run_of W)) → irp_column (irps_of size W) n < irp_column (irps_of size W) k

-- as this step is made, p has the lock: it makes the step, and that needs the lock, or has it before a step that needs none
abbrev pub HasItAt : Made → List Made → PassId → Type 0
HasItAt m E p = (IsTrue (needs_lock m.kind) × (m.pass ≡ p)) ⊎ ((needs_lock m.kind ≡ false) × HasLock E p)

-- of a step after the steps W, the pass whose column is shaded on its row is the one that has the lock as it is made
abbrev pub TheShadedPassHasTheLock : Size → List Numbered → Type 0
TheShadedPassHasTheLock size W = (w : Numbered) → IsRun size (run_of (w ∷ W)) → (p : PassId) → ((row_of size w W).lock ≡ Some p) ↔ HasItAt w.step (run_of W) p

-- after the run E, p is drawn as the owner of i, an IRP of this number in one of its lives, since some row and in some lane
abbrev pub IsDrawnAs : ℕ → List Made → IrpLife → PassId → Having → Type 0
IsDrawnAs irps E i p having = (row : ℕ) × (lane : ℕ) × (owner irps E i.irp ≡ Some (record { name = i; pass = p; having = having; row = row; lane = lane }))

-- of every run, a pass is drawn as the owner of an IRP in its present life exactly if it is the owner by the run; and none is drawn as its owner in another life
pub record EachDrawnOwnerOwesOrHolds (first : ℕ) (E : List Made) : Type 0 where
  pub owed : (irps : ℕ) (n : IrpId) (p : PassId) → (IsDrawnAs irps E (present first E n) p Owes) ↔ IsTrue (owes E p (present first E n))
  pub held : (irps : ℕ) (n : IrpId) (p : PassId) → (IsDrawnAs irps E (present first E n) p Holds) ↔ IsTrue (holds E p (present first E n))
  pub named : (irps : ℕ) (n : IrpId) (a : Owner) → owner irps E n ≡ Some a → a.name ≡ present first E n

-- of this number of IRPs, two that one pass has after the steps E are in lanes of their own, or in the ninth
abbrev pub NoTwoLinesShareALane : ℕ → List Made → Type 0
NoTwoLinesShareALane irps E = (n k : IrpId) (a b : Owner) → n.0 < irps → k.0 < irps → n ≢ k → owner irps E n ≡ Some a → owner irps E k ≡ Some b → a.pass ≡ b.pass → a.lane ≡ b.lane → a.lane ≡ 8

-- and one that a pass has in the ninth lane after a step was there before, or the pass had one in each of the eight lanes
abbrev pub TheNinthLaneIsLast : ℕ → List Made → Type 0
TheNinthLaneIsLast irps E = (m : Made) (n : IrpId) (a : Owner) → owner irps (m ∷ E) n ≡ Some a → a.lane ≡ 8 → IsTrue (is_in_lane a.pass 8 (owner irps E n)) ⊎ ((lane : ℕ) → lane < 8 → IsTrue (is_taken (owners irps E) a.pass lane))
