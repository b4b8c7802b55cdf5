use Rattle.csq_queue.specs.Named.{queue_size}
use Rattle.test_queue.proofs.Rereading.{statuses_read}
use Rattle.test_queue.proofs.tests.conclusions.reads.read_statuses.Goals as goal

pub returns : goal.returns
returns g c = record {
  stays = statuses_read (queue_size g.N.QueueName.limits) c.args.irp c.args.pass.now c.status-earlier.new.pass c.status.new.pass
      c.status-earlier.result c.status.result c.status-earlier.ensures.call.found c.status.ensures.call.found;
}
