use Rattle.std.proofs.Common.{sym}
use Rattle.csq_replay.proofs.LastLines.{listed_more, listed_all}
use Rattle.csq_replay.proofs.script.remains.listed_irps.Goals as goal

pub loop-irp-preserved : goal.loop-irp-preserved
loop-irp-preserved g c =
    let list = g.L.PendingList.listing c.args.list.now in
    record {
      noted = listed_more c.in-Some.irp c.loop-irp.after list.entries _ _ _ (g.met.L.PendingList.sound c.args.list.now).distinct (sym c.in-Some.ensures.found) c.in_ok-push.ensures.items c.loop-irp.invariant.noted;
      place = c.in-Some.ensures.start;
    }

pub returns : goal.returns
returns g c =
    let list = g.L.PendingList.listing c.args.list.now in
    listed_all c.loop-irp.after list.entries _ _ (sym c.in_default.ensures.found) c.loop-irp.invariant.noted
