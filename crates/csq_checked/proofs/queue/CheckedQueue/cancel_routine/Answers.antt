use Rattle.std.proofs.Common.{◌<◌, ap, rules}
use Rattle.csq_checked.proofs.Imports.{arc_value, PassRecord}
use Rattle.csq_checked.proofs.Checking.{routine_keeps}
use Rattle.csq_checked.proofs.queue.CheckedQueue.cancel_routine.Goals as goal

pub invariant_of-by : goal.invariant_of-by
invariant_of-by c =
    let words = arc_value c.by.inside.words in
    let known : c.args.irp.irp.0 < words.size.irps = search rules in
    let promised = c.cancel_routine.ensures in
    routine_keeps words c.by.inside.pass c.by.inside.held c.by.inside.owed c.by.invariant c.args.irp known _ _ _ promised.place (ap (λ (r : PassRecord). r.steps) promised.call.step) promised.call.cancelled promised.call.none_owed c.set-2.ensures c.set.ensures
