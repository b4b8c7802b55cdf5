use Rattle.std.proofs.Common.{arith}
use Rattle.csq_replay.proofs.LastLines.{numbers_more}
use Rattle.csq_replay.proofs.script.remains.write_numbers.Goals as goal

pub loop-irp-preserved : goal.loop-irp-preserved
loop-irp-preserved g c = numbers_more c.args.irps.now c.loop-irp.irp-index _ _ _ _ (omega arith) c.loop-irp.invariant c.in_ok-write.ensures.bytes
