use Rattle.std.proofs.Common.{arith}
use Rattle.csq_draw.proofs.PastLaws.{past_all, past_more}
use Rattle.csq_draw.proofs.lives.past_lives.Goals as goal

pub loop-row-preserved : goal.loop-row-preserved
loop-row-preserved g c = past_more c.args.irps.now c.args.rows.now c.loop-row.row-index _ _ _ (omega arith) c.in_ok-push_past.ensures c.loop-row.invariant

pub returns : goal.returns
returns g c = past_all c.args.irps.now c.args.rows.now c.loop-row.row-index _ (omega arith) c.loop-row.invariant
