use Rattle.std.proofs.Common.{◌&&◌, arith}
use Rattle.csq_device.proofs.Imports.{is_home, is_cancelled, tally_bound, irp_at}
use Rattle.csq_device.proofs.counting.count_flagged_home.Goals as goal

pub overflow_add-flagged : goal.overflow_add-flagged
overflow_add-flagged g c =
    let most = tally_bound (λ k. is_home (g.L.PendingList.listing c.args.rest.now.list) (irp_at k) && is_cancelled c.args.rest.now.finals (irp_at k)) c.loop-number.number in
    omega arith
