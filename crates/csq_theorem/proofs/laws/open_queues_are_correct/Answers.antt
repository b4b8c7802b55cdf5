use Rattle.csq_theorem.proofs.Correct.{open_correct}
use Rattle.csq_theorem.proofs.laws.open_queues_are_correct.Goals as goal

pub returns : goal.returns
returns c = open_correct
