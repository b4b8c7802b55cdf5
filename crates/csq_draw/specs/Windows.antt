-- The part of a picture that a window shows.
use Rattle.std.specs.Prelude.{ℕ, ◌+◌, ◌&&◌, ◌||◌, Bool, true, false, nat_le, nat_lt, is_none, List, [], ◌∷◌, length, slice_index_or, Option, Some, None, if◌then◌else◌}
use Rattle.std.specs.List.{list_any}
use Rattle.std.specs.Option.{option_map, option_map_or}
use Rattle.irp_core.specs.declared.ids.{IrpId.{IrpId}, PassId.{PassId}}
use Rattle.irp_core.specs.Steps.{name_of, same_id, same_pass}
use Rattle.csq_explain.specs.declared.passes.PassNow.{PassNow}
use Rattle.csq_explain.specs.Passes.{new_pass_now}
use Rattle.csq_explain.specs.Tables.{table}
use Rattle.csq_draw.specs.declared.owners.Owner.{Owner}
use Rattle.csq_draw.specs.declared.rows.Row.{Row}
use Rattle.csq_draw.specs.declared.view.Window.{Window}

-- whether this is the IRP that a window is of, if it is of one
abbrev pub is_wanted : Option IrpId → IrpId → Bool
is_wanted (Some n) i = same_id i n
is_wanted None i = true

-- whether a window shows a row: from its first line on, and if it is of an IRP only a step that names it
abbrev pub shows : Window → Row → Bool
shows w row = nat_le w.from row.line && option_map_or (λ i. is_wanted w.irp i.irp) (name_of row.step.made.kind) (is_none w.irp)

-- how many rows are shown up to this one, if n are before it
abbrev pub next : Window → Row → ℕ → ℕ
next w row n = if shows w row then n + 1 else n

-- the window position of each of these rows, counting from n
abbrev pub places : Window → ℕ → List Row → List ℕ
places w n [] = []
places w n (row ∷ rows) = n ∷ places w (next w row n) rows

-- how many rows are shown before the nth one
abbrev pub place : List ℕ → ℕ → ℕ
place ps n = slice_index_or ps n 0

-- an owner whose line begins on its row among those that are shown, or if that isn't shown on the next one that is
abbrev pub moved_owner : List ℕ → Owner → Owner
moved_owner ps o = record { name = o.name; pass = o.pass; having = o.having; row = place ps o.row; lane = o.lane }

-- a row that is shown as the nth one
abbrev pub moved : List ℕ → ℕ → Row → Row
moved ps n row = record { row = n; line = row.line; step = row.step; legality = row.legality; lock = row.lock; ended = option_map (moved_owner ps) row.ended; words = row.words }

-- the rows that a window shows, the first of which is the nth
abbrev pub cut : Window → List ℕ → ℕ → List Row → List Row
cut w ps n [] = []
cut w ps n (row ∷ rows) = if shows w row then moved ps n row ∷ cut w ps (n + 1) rows else cut w ps n rows

-- an owner after all rows, if a window shows its line
abbrev pub open_in : Window → List ℕ → Option Owner → Option Owner
open_in w ps (Some o) = if is_wanted w.irp o.name.irp then Some (moved_owner ps o) else None
open_in w ps None = None

-- whether this is p, if it is a pass, and whether an owner is
abbrev pub is_pass : PassId → Option PassId → Bool
is_pass p (Some q) = same_pass q p
is_pass p None = false

abbrev pub is_owner : PassId → Option Owner → Bool
is_owner p (Some o) = same_pass o.pass p
is_owner p None = false

-- whether a row shows p: it makes the step, has the lock, or no longer owes or holds an IRP
abbrev pub row_shows : PassId → Row → Bool
row_shows p row = same_pass row.step.made.pass p || (is_pass p row.lock || is_owner p row.ended)

-- whether an owner after this number of rows is p, and has a line on them
abbrev pub has_line : ℕ → PassId → Option Owner → Bool
has_line count p (Some o) = nat_lt o.row count && same_pass o.pass p
has_line count p None = false

-- whether these rows show p, or these owners after them
abbrev pub is_shown : List Row → List (Option Owner) → PassId → Bool
is_shown rows owners p = list_any (row_shows p) rows || list_any (has_line (length rows) p) owners

-- what is known of a pass in a window: it has a column if it is shown
abbrev pub shown_pass : PassNow → Bool → PassNow
shown_pass now shown = record { inside = now.inside; line = now.line; makes = shown }

abbrev pub shown_passes : List PassNow → List Row → List (Option Owner) → List PassNow
shown_passes passes rows owners = table (λ n. shown_pass (slice_index_or passes n new_pass_now) (is_shown rows owners (record { 0 = n }))) (length passes)
