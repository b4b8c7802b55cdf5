use Rattle.std.proofs.Common.{arith}
use Rattle.csq_draw.proofs.Growing.{drew_each, on_ok}
use Rattle.csq_draw.proofs.canvas.draw_each.Goals as goal

pub loop-n-preserved : goal.loop-n-preserved
loop-n-preserved g c = λ elements draws.
    let drew = on_ok c.draw.result _ (draws c.loop-n.n _ _ c.draw.result _ (omega arith) c.draw.ensures) c.in_ok-draw.was in
    drew_each g.C.Canvas.added elements c.args.items.now c.loop-n.n c.index-items-n.result _ _ _ (omega arith) c.index-items-n.is (c.loop-n.invariant elements draws) drew
