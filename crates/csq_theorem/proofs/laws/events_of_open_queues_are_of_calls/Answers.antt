use Rattle.csq_theorem.proofs.Correct.{open_of_calls}
use Rattle.csq_theorem.proofs.laws.events_of_open_queues_are_of_calls.Goals as goal

pub returns : goal.returns
returns c = open_of_calls
