use Rattle.csq_theorem.proofs.Correct.{closed_correct}
use Rattle.csq_theorem.proofs.laws.closed_queues_are_correct.Goals as goal

pub returns : goal.returns
returns c = closed_correct
