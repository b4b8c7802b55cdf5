use Rattle.std.proofs.Common.{refl}
use Rattle.csq_diagnose.proofs.Nearing.{nearest_more}
use Rattle.csq_diagnose.proofs.nearest.Near.find.Goals as goal

pub loop-one-preserved : goal.loop-one-preserved
loop-one-preserved g c =
    rw c.nearer.ensures (nearest_more c.args.word.now _ c.in_ok-edits.ensures.value c.args.words.now c.loop-one.one-index _ c.loop-one.best c.loop-one-test.true refl c.loop-one.invariant)
