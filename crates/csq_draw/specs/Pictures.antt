-- The picture of a schedule: which elements it has.
use Rattle.std.specs.Prelude.{◌≡◌, ℕ, ◌+◌, nat_lt, Bool, true, false, List, [], ◌∷◌, ◌++◌, length, map, replicate, is_some, Option, Some, None, if◌then◌else◌}
use Rattle.std.specs.Option.{option_map, option_map_or}
use Rattle.irp_core.specs.declared.ids.{PassId.{PassId}}
use Rattle.irp_core.specs.declared.step.Kind.{Kind}
use Rattle.irp_core.specs.Runs.{Size}
use Rattle.irp_core.specs.Steps.{name_of, same_pass}
use Rattle.csq_replay.specs.declared.schedule.closing.IrpLine.{IrpLine}
use Rattle.csq_replay.specs.declared.schedule.outcome.Stop.{Stop}
use Rattle.csq_replay.specs.Schedule.{Numbered, run_of}
use Rattle.csq_draw.specs.declared.view.Window.{Window}
use Rattle.csq_draw.specs.declared.sheet.Sheet.{Sheet}
use Rattle.csq_draw.specs.declared.spans.LineEnd.{LineEnd, TheVariants.{Step, Refusal, Last}}
use Rattle.csq_draw.specs.declared.owners.Owner.{Owner}
use Rattle.csq_explain.specs.declared.passes.PassNow.{PassNow}
use Rattle.csq_explain.specs.declared.reasons.Reason.{Reason}
use Rattle.csq_draw.specs.declared.rows.Row.{Row}
use Rattle.csq_draw.specs.declared.irps.{IrpNow.{IrpNow}, LastSeen.{LastSeen}, Spot.{Spot}}
use Rattle.csq_draw.specs.Arrows.{found_at}
use Rattle.csq_draw.specs.Endings.{rest_of}
use Rattle.csq_draw.specs.Irps.{new_irp, irp_at, irp_named, with_irp, irps_after, irp_column}
use Rattle.csq_draw.specs.Marks.{takes_lock, lets_go}
use Rattle.csq_draw.specs.declared.marks.Legality.{Legality, TheVariants.{Legal}}
use Rattle.csq_draw.specs.Owners.{owners}
use Rattle.csq_draw.specs.Passes.{columns, column_of}
use Rattle.csq_explain.specs.Passes.{all_passes}
use Rattle.csq_draw.specs.Rows.{rows_of}
use Rattle.csq_explain.specs.Reasons.{reason_of}
use Rattle.csq_draw.specs.declared.element.Element.{Element}
use Rattle.csq_draw.specs.HarmMarks.{harms_by_line, row_harm}
use Rattle.csq_draw.specs.Windows.{cut, open_in, place, places, shown_passes}
use Rattle.csq_draw.specs.declared.element.Element.TheVariants as element
use Rattle.csq_draw.specs.declared.ending.{Below.TheVariants.{Bar, Refused, Because, Past, Irp, AtRest, Broken as BrokenLine, Harm, NoHarm}, PictureEnd.{PictureEnd, TheVariants.{Stopped as StoppedEnd, Closed, Broken}}, RestState.{RestState}}
use Rattle.csq_explain.specs.declared.harms.HarmAt.{HarmAt}
use Rattle.csq_draw.specs.declared.lives.PastLife.{PastLife}
use Rattle.csq_draw.specs.Lives.{past_lives}

-- the elements of each, by its place, the first of which is n
abbrev pub each : {A : Type 0} → (ℕ → A → List Element) → ℕ → List A → List Element
each elements n [] = []
each elements n (x ∷ xs) = elements n x ++ each elements (n + 1) xs

-- the column of p, over this number of rows
abbrev pub column_element : List PassNow → ℕ → PassId → Element
column_element passes rows p = element.Column (record { column = column_of passes p; pass = p; rows = rows })

-- of a pass that makes a step: its column
abbrev pub column_elements : List PassNow → ℕ → ℕ → PassNow → List Element
column_elements passes rows n now = if now.makes then column_element passes rows (record { 0 = n }) ∷ [] else []

-- of the pass that has the lock on the row of a step, and maybe takes it there or lets it go: a shade in its column
abbrev pub shade_elements : List PassNow → Row → Option PassId → List Element
shade_elements passes row (Some p) = element.Shade (record { row = row.row; column = column_of passes p; first = takes_lock row.step; last = lets_go row.step }) ∷ []
shade_elements passes row None = []

-- of an owner whose time with an IRP ends on a row, or who has it after all rows: a line down its column to this row, which ends so, if it came to have the IRP on an earlier one (in a window both may be before its first row)
abbrev pub span_elements : List PassNow → ℕ → LineEnd → Option Owner → List Element
span_elements passes to end (Some owner) = if nat_lt owner.row to then element.Span (record { column = column_of passes owner.pass; owner = owner; to = to; end = end }) ∷ [] else []
span_elements passes to end None = []

-- the words of the IRP at this place from its last step to a row, or to the end, right of this number of columns
abbrev pub bars_elements : ℕ → ℕ → ℕ → Bool → Option LastSeen → List Element
bars_elements columns place to to_the_end (Some seen) = element.Bars (record { columns = columns; place = place; from = seen.row; to = to; to_the_end = to_the_end; words = seen.words }) ∷ []
bars_elements columns place to to_the_end None = []

-- who wrote what a row's step found, if another pass did: an arrow from there
abbrev pub arrow_elements : List PassNow → Row → Option Spot → List Element
arrow_elements passes row (Some spot) = if same_pass spot.pass row.step.made.pass then []
    else element.Arrow (record { from_column = column_of passes spot.pass; from = spot; column = column_of passes row.step.made.pass; row = row.row; line = row.line }) ∷ []
arrow_elements passes row None = []

-- the number of a row's line
abbrev pub number_element : Row → Element
number_element row = element.Number (record { row = row.row; line = row.line })

-- the place of the IRP that a step of this kind names, among those that the picture shows
abbrev pub place_named : List IrpNow → Kind → ℕ
place_named irps k = option_map_or (λ i. irp_column irps i.irp) (name_of k) 0

-- a row's step, in the column of its pass
abbrev pub mark_element : List PassNow → List IrpNow → Row → Element
mark_element passes irps row = element.Mark (record { row = row.row; column = column_of passes row.step.made.pass; columns = columns passes; place = place_named irps row.step.made.kind; step = row.step; legality = row.legality; words = row.words })

-- the call that it is of: from a refusal on nothing is known of calls
abbrev pub call_elements : List PassNow → IrpNow → Row → Legality → List Element
call_elements passes before row Legal = element.Call (record { row = row.row; column = column_of passes row.step.made.pass; step = row.step; claim = before.claim }) ∷ []
call_elements passes before row _ = []

-- the words that the IRP of a row's step had until then, if it shows them after it
abbrev pub words_until : List PassNow → List IrpNow → IrpNow → Row → List Element
words_until passes irps before row = if is_some row.words then bars_elements (columns passes) (place_named irps row.step.made.kind) row.row false before.last else []

-- behind the mark of a step, by what was known of its IRP before the step: who has the lock, whose time with the IRP it ends, the words of the IRP until then, and who wrote what it found
abbrev pub behind_elements : List PassNow → List IrpNow → IrpNow → Row → List Element
behind_elements passes irps before row = shade_elements passes row row.lock ++ (span_elements passes row.row Step row.ended
    ++ (words_until passes irps before row ++ arrow_elements passes row (found_at before row)))

-- the row of a step, by the same: the number of its line, what stands behind its mark, its mark, and its call
abbrev pub row_after : List PassNow → List IrpNow → IrpNow → Row → List Element
row_after passes irps before row = number_element row ∷ (behind_elements passes irps before row ++ mark_element passes irps row ∷ call_elements passes before row row.legality)

-- as many IRPs as these, of which nothing is known yet
abbrev pub fresh_irps : List IrpNow → List IrpNow
fresh_irps irps = replicate (length irps) new_irp

-- of these rows, by what was known of the IRPs before them
abbrev pub rows_elements : List PassNow → List IrpNow → List IrpNow → List Row → List Element
rows_elements passes irps known [] = []
rows_elements passes irps known (row ∷ rows) = row_after passes irps (irp_named known row.step.made.kind) row ++ rows_elements passes irps (with_irp known row) rows

-- of the owners after all rows: lines that end where the protocol was broken, if it was, and else in the end
abbrev pub open_elements : List PassNow → ℕ → LineEnd → ℕ → Option Owner → List Element
open_elements passes to end n owner = span_elements passes to end owner

abbrev pub owners_elements : List PassNow → ℕ → Option ℕ → List (Option Owner) → List Element
owners_elements passes count (Some row) owners = each (open_elements passes row Refusal) 0 owners
owners_elements passes count None owners = each (open_elements passes count Last) 0 owners

-- of IRP n, if a step names it: the words that it has in the end
abbrev pub last_elements : List PassNow → List IrpNow → ℕ → ℕ → IrpNow → List Element
last_elements passes irps rows n now = bars_elements (columns passes) (irp_column irps (record { 0 = n })) rows true now.last

-- and the names of these words over their columns
abbrev pub word_elements : List PassNow → List IrpNow → ℕ → IrpNow → List Element
word_elements passes irps n now = if is_some now.last then element.WordColumns (record { columns = columns passes; place = irp_column irps (record { 0 = n }); irp = record { 0 = n } }) ∷ [] else []

-- of the line that ended the handling: its bar, its number, what is reported for it, and why it ended it
abbrev pub refused_elements : ℕ → ℕ → Reason → List Element
refused_elements rows line reason = element.Below rows Bar ∷ (element.Number (record { row = rows; line = line })
    ∷ (element.Below rows (Refused reason.stop) ∷ (element.Below rows (Because reason) ∷ [])))

-- of an earlier life of an IRP: how it ended
abbrev pub past_elements : ℕ → ℕ → PastLife → List Element
past_elements rows nth life = element.Below rows (Past nth life) ∷ []

-- of an IRP that is reported in the end, below the first lines
abbrev pub closing_elements : List IrpNow → ℕ → ℕ → ℕ → IrpLine → List Element
closing_elements irps rows first nth line = element.Below rows (Irp (nth + first) line (irp_at irps line.name.irp)) ∷ []

-- of what is reported in the end: each earlier life, each IRP, and whether all is at rest
abbrev pub closed_elements : List IrpNow → List PastLife → List IrpLine → RestState → ℕ → List Element
closed_elements irps lives reported rest rows = each (past_elements rows) 0 lives
    ++ (each (closing_elements irps rows (length lives)) 0 reported ++ element.Below rows (AtRest (length reported + length lives) rest) ∷ [])

-- of an order that broke the protocol in the nth line: where and why, and what goes wrong, each on a line below
abbrev pub harm_elements : ℕ → ℕ → HarmAt → List Element
harm_elements rows nth h = element.Below rows (Harm nth h) ∷ []

-- or that nothing does
abbrev pub harms_elements : ℕ → List HarmAt → List Element
harms_elements rows [] = element.Below rows NoHarm ∷ []
harms_elements rows (h ∷ harms) = each (harm_elements rows) 0 (h ∷ harms)

abbrev pub broken_elements : ℕ → Reason → List HarmAt → ℕ → List Element
broken_elements n reason harms rows = element.Below rows (BrokenLine n reason) ∷ harms_elements rows harms

-- what goes wrong on each of these rows
abbrev pub harm_marks : List PassNow → List Row → List HarmAt → List Element
harm_marks passes rows harms = each (row_harm passes (harms_by_line rows harms)) 0 rows

-- what a picture shows: the passes, what is known of the IRPs after the rows, the rows, the owners after them, and the row of the first step that the protocol refuses
pub record Shown : Type 0 where
  pub passes : List PassNow
  pub irps : List IrpNow
  pub rows : List Row
  pub owners : List (Option Owner)
  pub refused : Option ℕ

-- how a picture ends: its elements on the rows of what is shown, and below this number of rows
pub record EndShown : Type 0 where
  pub on_rows : Shown → List Element
  pub below : ℕ → List Element

-- with the nth line, which ended the handling for this reason
abbrev pub stopped_end : ℕ → Reason → EndShown
stopped_end n reason = record { on_rows = λ s. []; below = λ rows. refused_elements rows n reason }

-- with what is reported in the end
abbrev pub closed_end : List IrpNow → List PastLife → List IrpLine → RestState → EndShown
closed_end irps lives reported rest = record { on_rows = λ s. []; below = closed_elements irps lives reported rest }

-- with the nth line, in which the protocol was broken, and what goes wrong, on the row of its step too
abbrev pub broken_end : ℕ → Reason → List HarmAt → EndShown
broken_end n reason harms = record { on_rows = λ s. harm_marks s.passes s.rows harms; below = broken_elements n reason harms }

abbrev pub end_of : PictureEnd → EndShown
end_of (StoppedEnd n reason) = stopped_end n reason
end_of (Closed irps lives reported rest) = closed_end irps.now lives.now reported.now rest
end_of (Broken n reason harms) = broken_end n reason harms.now

-- as a sheet has it
abbrev pub shown_by : Sheet → Shown
shown_by s = record { passes = s.passes.now; irps = s.irps.now; rows = s.rows.now; owners = s.owners.now; refused = s.refused }

-- what stands above this number of rows of these passes and IRPs, and the words that are kept to the end
abbrev pub above_elements : List PassNow → List IrpNow → ℕ → List Element
above_elements passes irps count = element.Lines ∷ (each (column_elements passes count) 0 passes ++ (each (word_elements passes irps) 0 irps ++ each (last_elements passes irps count) 0 irps))

-- what stands above this number of rows, the rows, and the owners after them
abbrev pub shown_elements : Shown → ℕ → List Element
shown_elements s count = above_elements s.passes s.irps count ++ (rows_elements s.passes s.irps (fresh_irps s.irps) s.rows ++ owners_elements s.passes count s.refused s.owners)

-- and then how it ends, on the rows and below them
abbrev pub picture_of : Shown → ℕ → EndShown → List Element
picture_of s count e = shown_elements s count ++ (e.on_rows s ++ e.below count)

-- the elements of what is shown, and of how it ends
abbrev pub elements_of : Shown → EndShown → List Element
elements_of s e = picture_of s (length s.rows) e

-- what a window shows of it
abbrev pub by_places : Window → List ℕ → Shown → Shown
by_places w ps s = record { passes = shown_passes s.passes (cut w ps 0 s.rows) (map (open_in w ps) s.owners); irps = irps_after (fresh_irps s.irps) (cut w ps 0 s.rows); rows = cut w ps 0 s.rows; owners = map (open_in w ps) s.owners; refused = option_map (place ps) s.refused }

abbrev pub seen : Option Window → Shown → Shown
seen (Some w) s = by_places w (places w 0 s.rows) s
seen None s = s

-- what is known of the IRPs after the steps W
abbrev pub irps_of : Size → List Numbered → List IrpNow
irps_of size W = irps_after (replicate size.irps new_irp) (rows_of size W)

-- what the steps W show
abbrev pub steps_shown : Size → List Numbered → Shown
steps_shown size W = record { passes = all_passes size W; irps = irps_of size W; rows = rows_of size W; owners = owners size.irps (run_of W); refused = None }

-- how they end: with the nth line, which ended the handling, or with what is reported in the end
abbrev pub stop_of : Size → List Numbered → ℕ → Stop → EndShown
stop_of size W n stop = stopped_end n (reason_of size W stop)

abbrev pub close_of : Size → List Numbered → List IrpLine → Bool → EndShown
close_of size W reported at_rest = closed_end (irps_of size W) (past_lives (irps_of size W) (rows_of size W)) reported (rest_of (all_passes size W) at_rest)
