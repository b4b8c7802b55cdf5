use Rattle.csq_theorem.proofs.Correct.{left_of_calls}
use Rattle.csq_theorem.proofs.laws.events_left_are_of_calls.Goals as goal

pub returns : goal.returns
returns c = left_of_calls
