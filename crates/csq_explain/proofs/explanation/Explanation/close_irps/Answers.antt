use Rattle.std.proofs.Common.{arith}
use Rattle.csq_explain.proofs.Closings.{grew_irp}
use Rattle.csq_explain.proofs.explanation.Explanation.close_irps.Goals as goal

pub loop-line-preserved : goal.loop-line-preserved
loop-line-preserved g c = grew_irp _ c.args.reported.now c.loop-line.line-index _ _ _ _ _ (omega arith) c.loop-line.invariant c.in_ok-writeln.ensures.bytes c.in_ok-add_remark.ensures
