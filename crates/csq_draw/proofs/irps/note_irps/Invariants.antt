use Rattle.std.proofs.Common.{◌≡◌, take}
use Rattle.csq_draw.proofs.Imports.{irps_after}
use Rattle.csq_draw.proofs.irps.note_irps.Given as goal

-- those so far were noted
abbrev pub invariant-loop-row : goal.invariant-loop-row
invariant-loop-row l = l.irps ≡ irps_after l.fn.irps (take l.row-index l.rows)
