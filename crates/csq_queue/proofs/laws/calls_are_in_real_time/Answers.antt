use Rattle.csq_queue.proofs.Moments.{in_real_time}
use Rattle.csq_queue.proofs.laws.calls_are_in_real_time.Goals as goal

pub returns : goal.returns
returns c = in_real_time
