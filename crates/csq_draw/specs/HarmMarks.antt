-- What goes wrong at the steps of an order, on the rows of the steps.
use Rattle.std.specs.Prelude.{ℕ, ◌+◌, ◌-◌, List, [], ◌∷◌, length, replicate, slice_get, slice_index_or, slice_set, Option, Some, None}
use Rattle.std.specs.Option.{option_map_or}
use Rattle.csq_explain.specs.declared.harms.HarmAt.{HarmAt}
use Rattle.csq_explain.specs.declared.passes.PassNow.{PassNow}
use Rattle.csq_draw.specs.declared.element.Element.{Element}
use Rattle.csq_draw.specs.declared.element.Element.TheVariants as element
use Rattle.csq_draw.specs.declared.rows.Row.{Row}
use Rattle.csq_draw.specs.Passes.{column_of}

-- one more line than the last of these rows has
abbrev pub lines_in : List Row → ℕ
lines_in rows = option_map_or (λ row. row.line + 1) (slice_get rows (length rows - 1)) 0

-- of several at one line the first, which comes of the step itself
abbrev pub first_harm : Option HarmAt → HarmAt → Option HarmAt
first_harm (Some first) h = Some first
first_harm None h = Some h

-- what goes wrong at each line, with one harm more, at the line of its step
abbrev pub noted_harm : List (Option HarmAt) → HarmAt → List (Option HarmAt)
noted_harm lines h = slice_set lines h.step.line (first_harm (slice_index_or lines h.step.line None) h)

-- and with all of these
abbrev pub noted_harms : List (Option HarmAt) → List HarmAt → List (Option HarmAt)
noted_harms lines [] = lines
noted_harms lines (h ∷ harms) = noted_harms (noted_harm lines h) harms

-- what goes wrong at each line up to the last of these rows
abbrev pub harms_by_line : List Row → List HarmAt → List (Option HarmAt)
harms_by_line rows harms = noted_harms (replicate (lines_in rows) None) harms

-- and at the line of a row
abbrev pub harm_on : List (Option HarmAt) → Row → Option HarmAt
harm_on lines row = slice_index_or lines row.line None

-- what goes wrong on a row, in the column of its pass
abbrev pub harm_mark : List PassNow → Row → Option HarmAt → List Element
harm_mark passes row (Some h) = element.HarmMark (record { row = row.row; column = column_of passes row.step.made.pass; harm = h }) ∷ []
harm_mark passes row None = []

-- the same of the nth row, by its line
abbrev pub row_harm : List PassNow → List (Option HarmAt) → ℕ → Row → List Element
row_harm passes lines n row = harm_mark passes row (harm_on lines row)
