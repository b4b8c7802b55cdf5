use Rattle.csq_queue.proofs.Moments.{open_in_real_time}
use Rattle.csq_queue.proofs.laws.calls_of_an_open_queue_are_in_real_time.Goals as goal

pub returns : goal.returns
returns c = open_in_real_time
