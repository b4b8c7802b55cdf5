use Rattle.csq_queue.proofs.Ordering.{open_in_order}
use Rattle.csq_queue.proofs.laws.events_of_an_open_queue_stand_in_order.Goals as goal

pub returns : goal.returns
returns c = open_in_order
