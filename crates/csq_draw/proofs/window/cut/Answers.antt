use Rattle.std.proofs.Common.{arith}
use Rattle.csq_draw.proofs.WindowLaws.{cut_all, cut_more}
use Rattle.csq_draw.proofs.window.cut.Goals as goal

pub loop-row-preserved : goal.loop-row-preserved
loop-row-preserved g c = cut_more c.args.window c.args.places.now c.args.rows.now c.loop-row.row-index _ _ _ (omega arith) c.in_ok-push_shown.ensures c.loop-row.invariant

pub returns : goal.returns
returns g c = cut_all c.args.window c.args.places.now c.args.rows.now c.loop-row.row-index _ (omega arith) c.loop-row.invariant
