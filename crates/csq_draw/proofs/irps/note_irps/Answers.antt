use Rattle.std.proofs.Common.{arith}
use Rattle.csq_draw.proofs.Known.{after-step}
use Rattle.csq_draw.proofs.irps.note_irps.Goals as goal

pub loop-row-preserved : goal.loop-row-preserved
loop-row-preserved c = after-step c.args.irps.now _ _ c.args.rows.now c.loop-row.row-index _ (omega arith) c.note_irp.ensures c.loop-row.invariant
