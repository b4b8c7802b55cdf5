use Rattle.std.proofs.Common.{◌≡◌, take}
use Rattle.csq_draw.proofs.Imports.{Drew, fresh_irps, irps_after, rows_elements}
use Rattle.csq_draw.proofs.row_picture.draw_rows.Given as goal

-- the elements of those so far were added, and what is known of the IRPs is what they say
abbrev pub invariant-loop-row : goal.invariant-loop-row
invariant-loop-row g l = (Drew g.C.Canvas.added (g.C.Canvas.image l.fn.out) (g.C.Canvas.image l.out) (rows_elements l.passes l.irps (fresh_irps l.irps) (take l.row-index l.rows))) × (l.known.items ≡ irps_after (fresh_irps l.irps) (take l.row-index l.rows))
