use Rattle.std.proofs.Common.{arith}
use Rattle.csq_draw.proofs.HarmLaws.{noted_step, noted_all}
use Rattle.csq_draw.proofs.harm_marks.note_harms.Goals as goal

pub loop-harm-preserved : goal.loop-harm-preserved
loop-harm-preserved c = noted_step c.args.lines.now _ _ c.args.harms.now c.loop-harm.harm-index _ (omega arith) c.note_harm.ensures c.loop-harm.invariant

pub returns : goal.returns
returns c = noted_all c.args.lines.now _ c.args.harms.now c.loop-harm.harm-index (omega arith) c.loop-harm.invariant
