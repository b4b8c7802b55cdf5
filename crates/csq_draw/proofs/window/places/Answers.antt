use Rattle.std.proofs.Common.{arith}
use Rattle.csq_draw.proofs.WindowLaws.{placed, placed_all}
use Rattle.csq_draw.proofs.window.places.Goals as goal

pub loop-row-preserved : goal.loop-row-preserved
loop-row-preserved g c = placed c.args.window c.args.rows.now c.loop-row.row-index _ _ _ _ _ (omega arith) c.in_ok-push.ensures.items c.in_ok-shown.ensures c.loop-row.invariant

pub returns : goal.returns
returns g c = placed_all c.args.window c.args.rows.now c.loop-row.row-index _ (omega arith) c.loop-row.invariant.0
