use Rattle.csq_queue.proofs.Ordering.{told_came_first}
use Rattle.csq_queue.proofs.laws.calls_told_of_came_first.Goals as goal

pub returns : goal.returns
returns c = told_came_first
