use Rattle.std.proofs.Common.{ap, length, arith}
use Rattle.csq_draw.proofs.Imports.{length-passes}
use Rattle.csq_draw.proofs.OrderShowing.{owners_count}
use Rattle.csq_draw.proofs.drawing.DrawingAnswererReason.close.Goals as goal

pub write_end-requires-clause-few : goal.write_end-requires-clause-few
write_end-requires-clause-few g c =
    let (k, d, a) = c.requires in
    let most = a.0.follows.limits.3 in
    omega (arith, most, ap length a.0.follows.passes, length-passes k.0 d.own)

pub write_end-requires-clause-irps : goal.write_end-requires-clause-irps
write_end-requires-clause-irps g c =
    let (k, d, a) = c.requires in
    let most = a.0.follows.limits.1 in
    omega (arith, most, owners_count _ k.0 d a.0)

pub returns : goal.returns
returns g c = λ k d a. let (added, grew) = c.in_ok-write_end.ensures in (added, grew, tt)
