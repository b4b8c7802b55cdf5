use Rattle.std.proofs.Common.{rules}
use Rattle.csq_queue.proofs.Beginning.{new_blank, new_open, new_rack}
use Rattle.csq_queue.proofs.blank.Blank.large.Goals as goal

pub invariant_of-queue : goal.invariant_of-queue
invariant_of-queue g c = new_open c.in-Ok.parts.0 c.args.irps c.args.passes c.args.first.0 (g.L.PendingList.listing c.args.list) c.in-Ok.parts.1 c.in-Ok.parts.2 c.in-Ok-vec.back.items c.in-Ok-new.kept (search rules)

pub invariant_of-rack : goal.invariant_of-rack
invariant_of-rack g c = (new_rack c.in-Ok.parts.0 c.args.irps c.args.passes c.args.first.0 (g.L.PendingList.listing c.args.list) c.in-Ok.parts.1 c.in-Ok.parts.2 c.in-Ok-vec.back.items c.in-Ok-new.kept (search rules)).0

pub invariant_of-result : goal.invariant_of-result
invariant_of-result g c = new_blank c.in-Ok.parts.0 c.args.irps c.args.passes c.args.first.0 (g.L.PendingList.listing c.args.list) c.in-Ok.parts.1 c.in-Ok.parts.2 c.in-Ok-vec.back.items c.in-Ok-new.kept (search rules)
