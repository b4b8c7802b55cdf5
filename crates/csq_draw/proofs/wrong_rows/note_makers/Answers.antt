use Rattle.std.proofs.Common.{arith}
use Rattle.csq_draw.proofs.WrongLaws.{makers_step, makers_all}
use Rattle.csq_draw.proofs.wrong_rows.note_makers.Goals as goal

pub loop-row-preserved : goal.loop-row-preserved
loop-row-preserved c = makers_step c.args.passes.now _ _ c.args.rows.now c.loop-row.row-index _ (omega arith) c.note_maker.ensures c.loop-row.invariant

pub returns : goal.returns
returns c = makers_all c.args.passes.now _ c.args.rows.now c.loop-row.row-index (omega arith) c.loop-row.invariant
