use Rattle.csq_queue.proofs.Bounds.{calls_short}
use Rattle.csq_queue.proofs.laws.calls_are_short.Goals as goal

pub returns : goal.returns
returns c = calls_short
