use Rattle.std.proofs.Common.{arith}
use Rattle.csq_explain.proofs.Wrongs.{grew_harm, grew_harms}
use Rattle.csq_explain.proofs.wrong.add_each_harm.Goals as goal

pub loop-harm-preserved : goal.loop-harm-preserved
loop-harm-preserved g c = grew_harm c.args.harms.now c.loop-harm.harm-index _ _ _ _ (omega arith) c.loop-harm.invariant c.in_ok-writeln.ensures.bytes

pub returns : goal.returns
returns g c = grew_harms c.args.harms.now c.loop-harm.harm-index _ _ (omega arith) c.loop-harm.invariant
