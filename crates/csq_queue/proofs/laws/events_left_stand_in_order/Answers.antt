use Rattle.csq_queue.proofs.Ordering.{left_in_order}
use Rattle.csq_queue.proofs.laws.events_left_stand_in_order.Goals as goal

pub returns : goal.returns
returns c = left_in_order
