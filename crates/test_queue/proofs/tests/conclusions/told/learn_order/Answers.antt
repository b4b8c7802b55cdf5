use Rattle.csq_words.proofs.Placing.{in_order}
use Rattle.test_queue.proofs.tests.conclusions.told.learn_order.Goals as goal

pub returns : goal.returns
returns g c =
    let told = c.learn.ensures.call.agreed in
    record { own = told.begins; told = told.history; calls = told.once; order = (in_order g.N.QueueName.limits.first c.learn.new.pass.trace told.is_trace, told.entries_are) }
