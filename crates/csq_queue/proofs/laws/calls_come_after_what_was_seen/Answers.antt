use Rattle.csq_queue.proofs.Ordering.{after_seen}
use Rattle.csq_queue.proofs.laws.calls_come_after_what_was_seen.Goals as goal

pub returns : goal.returns
returns c = after_seen
