use Rattle.csq_queue.specs.Named.{queue_size}
use Rattle.test_queue.proofs.Rereading.{flags_read}
use Rattle.test_queue.proofs.tests.conclusions.reads.read_flags.Goals as goal

pub returns : goal.returns
returns g c = record {
  stays = flags_read (queue_size g.N.QueueName.limits) c.args.irp c.args.pass.now c.is_cancelled-earlier.new.pass c.is_cancelled.new.pass
      c.is_cancelled-earlier.result c.is_cancelled.result c.is_cancelled-earlier.ensures.call.found c.is_cancelled.ensures.call.found;
}
