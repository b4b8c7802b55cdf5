use Rattle.test_queue.proofs.Single.{insert_flagged}
use Rattle.test_queue.proofs.tests.single_pass.insert_alone.Goals as goal

pub returns-clause-flagged : goal.returns-clause-flagged
returns-clause-flagged g c = insert_flagged g.N.QueueName.limits c.insert.ensures.call.0 c.insert.result c.args.irp c.args.file _ c.args.pass.now c.insert.new.pass c.requires.one c.requires.first c.insert.ensures.call.1
