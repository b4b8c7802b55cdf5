use Rattle.std.proofs.Common.{arith}
use Rattle.csq_explain.proofs.ScriptTexts.{commas_more}
use Rattle.csq_explain.proofs.script_endings.push_after_commas.Goals as goal

pub loop-irp-preserved : goal.loop-irp-preserved
loop-irp-preserved g c = commas_more c.args.irps.now c.loop-irp.irp-index _ _ _ _ (omega arith) c.loop-irp.invariant c.in_ok-write.ensures.bytes
