use Rattle.std.proofs.Common.{true, rules}
use Rattle.csq_checked.proofs.Imports.{arc_value, end_of, IsQueueOn, remove_next_gives}
use Rattle.csq_checked.proofs.Checking.{giving_keeps}
use Rattle.csq_checked.proofs.queue.CheckedQueue.remove_next.Goals as goal

pub invariant_of-by : goal.invariant_of-by
invariant_of-by c =
    let words = arc_value c.by.inside.words in
    let on : IsQueueOn words c.self.inside.queue = search rules in
    let q = c.self.inside.queue in
    let promised = c.remove_next-taken.ensures in
    let gives = remove_next_gives q.limits c.args.peek c.remove_next-taken.result (end_of q.limits.first q.queue.history) c.by.inside.pass.pass c.remove_next-taken.new.pass.pass promised.call.steps promised.call.new in
    giving_keeps words c.by.inside.pass c.by.inside.held c.by.inside.owed c.by.invariant c.self.inside.queue on _ true _ _ gives promised.place c.note_removed.ensures
