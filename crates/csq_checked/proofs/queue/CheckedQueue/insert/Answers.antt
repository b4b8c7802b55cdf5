use Rattle.std.proofs.Common.{None, Ok, false, refl, subst, rules}
use Rattle.csq_checked.proofs.Imports.{arc_value, IrpLife, end_of, InsertAnswer, IsQueueOn, GivesOut, insert_gives}
use Rattle.csq_queue.specs.Inserts.{given_by}
use Rattle.csq_checked.proofs.Checking.{giving_keeps}
use Rattle.csq_checked.proofs.queue.CheckedQueue.insert.Goals as goal

pub invariant_of-by-in_default : goal.invariant_of-by-in_default
invariant_of-by-in_default c =
    let words = arc_value c.by.inside.words in
    let on : IsQueueOn words c.self.inside.queue = search rules in
    let q = c.self.inside.queue in
    let promised = c.in_ok-inserted.ensures in
    let gives = insert_gives q.limits (Ok c.in_ok-inserted.inserted) (end_of q.limits.first c.insert.new.pass.pass.seen) c.by.inside.pass.pass c.insert.new.pass.pass promised.call.steps promised.call.new in
    giving_keeps words c.by.inside.pass c.by.inside.held c.by.inside.owed c.by.invariant q on None false _ _ (subst (λ (a : InsertAnswer IrpLife IrpLife). GivesOut q.limits (given_by a) false c.by.inside.pass.pass c.insert.new.pass.pass) c.in_default.is gives) promised.place refl
