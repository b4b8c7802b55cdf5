use Rattle.csq_queue.proofs.Ordering.{ordered}
use Rattle.csq_queue.proofs.laws.calls_are_ordered.Goals as goal

pub returns : goal.returns
returns c = ordered
