-- The rows of a refused step, and of what comes after it by the two words of each IRP alone.
use Rattle.std.specs.Prelude.{ℕ, true, List, [], ◌∷◌, slice_index_or, slice_set, Option, Some, None, if◌then◌else◌}
use Rattle.std.specs.Option.{option_and_then}
use Rattle.irp_core.specs.declared.ids.{IrpLife.{IrpLife}, PassId.{PassId}}
use Rattle.irp_core.specs.declared.inside.Inside.TheVariants.{Nothing}
use Rattle.irp_core.specs.declared.step.Kind.{Kind}
use Rattle.irp_core.specs.Steps.{name_of, same_irp}
use Rattle.csq_explain.specs.declared.line_steps.LineStep.{LineStep}
use Rattle.csq_explain.specs.declared.passes.PassNow.{PassNow}
use Rattle.csq_explain.specs.declared.word_values.WordValues.{WordValues}
use Rattle.csq_explain.specs.LineSteps.{made_in}
use Rattle.csq_explain.specs.Passes.{new_pass_now}
use Rattle.csq_explain.specs.WordValues.{words_after, words_with}
use Rattle.csq_draw.specs.declared.marks.Legality.{Legality}
use Rattle.csq_draw.specs.declared.refusals.FirstRefusal.{FirstRefusal}
use Rattle.csq_draw.specs.declared.rows.Row.{Row}

-- these words after a step of i of this kind: none if they are of another life, which it doesn't change
abbrev pub words_in : WordValues → IrpLife → Kind → Option WordValues
words_in w i k = if same_irp i w.name then Some (words_with w k) else None

-- the words of the IRP that a step of this kind names, after these steps, the newest first, and that one
abbrev pub words_by : List LineStep → Kind → Option WordValues
words_by V k = option_and_then (λ i. words_in (words_after (made_in V) i.irp) i k) (name_of k)

-- the nth row, of a step after these: nothing is known of calls, of the lock and of owners
abbrev pub wrong_row : List LineStep → ℕ → LineStep → Legality → Row
wrong_row V n x legality = record {
  row = n;
  line = x.line;
  step = record { made = x.made; inside = Nothing; status = None };
  legality = legality;
  lock = None;
  ended = None;
  words = words_by V x.made.kind;
}

-- p makes a step
abbrev pub with_maker : List PassNow → PassId → List PassNow
with_maker passes p = slice_set passes p.0 (record { inside = (slice_index_or passes p.0 new_pass_now).inside; line = (slice_index_or passes p.0 new_pass_now).line; makes = true })

-- and so do the passes of these rows
abbrev pub makers : List PassNow → List Row → List PassNow
makers passes [] = passes
makers passes (row ∷ rows) = makers (with_maker passes row.step.made.pass) rows

-- the passes of a picture: of an order that broke the protocol so, those of its rows make steps too
abbrev pub shown_makers : Option FirstRefusal → List PassNow → List Row → List PassNow
shown_makers (Some refusal) passes rows = makers passes rows
shown_makers None passes rows = passes
