-- The earlier lives of the IRPs that were used again, each with the step that ended it.
use Rattle.std.specs.Prelude.{◌==◌, not, Bool, false, List, [], ◌∷◌, ◌++◌, if◌then◌else◌}
use Rattle.std.specs.Option.{option_map_or}
use Rattle.irp_core.specs.declared.ids.IrpLife.{IrpLife}
use Rattle.irp_core.specs.declared.step.Kind.{Kind, TheVariants.{Done}}
use Rattle.csq_draw.specs.declared.irps.{IrpNow.{IrpNow}, LastSeen.{LastSeen}}
use Rattle.csq_draw.specs.declared.lives.PastLife.{PastLife}
use Rattle.csq_draw.specs.declared.rows.Row.{Row}
use Rattle.csq_draw.specs.Irps.{irp_at}

-- whether an IRP was used again after this life: by what is known of it, its words are of another one
abbrev pub was_reused : IrpLife → IrpNow → Bool
was_reused i now = option_map_or (λ (seen : LastSeen). not (seen.words.name.life.0 == i.life.0)) now.last false

-- of a row's step that completed an IRP, if that was used again: the life that it ended
abbrev pub past_of : List IrpNow → Row → Kind → List PastLife
past_of irps row (Done i) = if was_reused i (irp_at irps i.irp) then record { name = i; pass = row.step.made.pass; line = row.line } ∷ [] else []
past_of irps row _ = []

-- of these rows, in order, by what is known of the IRPs after all of them
abbrev pub past_lives : List IrpNow → List Row → List PastLife
past_lives irps [] = []
past_lives irps (row ∷ rows) = past_of irps row row.step.made.kind ++ past_lives irps rows
