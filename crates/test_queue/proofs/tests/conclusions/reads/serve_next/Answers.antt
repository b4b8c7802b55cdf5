use Rattle.csq_words.proofs.Facts.{extended_on}
use Rattle.csq_queue.specs.Named.{queue_size}
use Rattle.csq_queue.proofs.Cancelling.{completed_follows}
use Rattle.test_queue.proofs.Completing.{read_follows}
use Rattle.test_queue.proofs.tests.conclusions.reads.serve_next.Goals as goal

pub returns : goal.returns
returns g c =
    let size = queue_size g.N.QueueName.limits in
    let removed = c.in_ok-token.ensures.call.1.call.1.follows in
    let completed = completed_follows size c.in_ok-token.token c.remove_next.new.pass c.complete.new.pass c.complete.ensures.call.unset in
    let read = read_follows size c.irp-irp.result c.complete.new.pass c.status.new.pass c.status.result c.status.ensures.call.found c.status.ensures.call.unknown in
    record { follows = extended_on _ _ _ removed (extended_on _ _ _ completed read) }
