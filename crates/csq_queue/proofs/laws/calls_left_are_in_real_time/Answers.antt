use Rattle.csq_queue.proofs.Moments.{left_in_real_time}
use Rattle.csq_queue.proofs.laws.calls_left_are_in_real_time.Goals as goal

pub returns : goal.returns
returns c = left_in_real_time
