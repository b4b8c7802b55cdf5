-- Which step an arrow runs from.
use Rattle.std.specs.Prelude.{ℕ, ◌==◌, Option, None, if◌then◌else◌}
use Rattle.irp_core.specs.declared.step.Kind.{Kind, TheVariants.{Test, Disarm, Flag, Take}}
use Rattle.csq_draw.specs.declared.irps.{Spot.{Spot}, IrpNow.{IrpNow}}
use Rattle.csq_draw.specs.declared.rows.Row.{Row}

-- who wrote what this kind of step found set: the Cancel flag, or the cancel routine
abbrev pub found_in : IrpNow → Kind → ℕ → Option Spot
found_in before (Test i) found = if found == 1 then before.flag else None
found_in before (Flag i) found = if found == 1 then before.flag else None
found_in before (Disarm i) found = if found == 1 then before.routine else None
found_in before (Take i) found = if found == 1 then before.routine else None
found_in before _ found = None

-- who wrote what the step of a row found set
abbrev pub found_at : IrpNow → Row → Option Spot
found_at before row = found_in before row.step.made.kind row.step.made.found
