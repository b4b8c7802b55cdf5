use Rattle.csq_queue.proofs.Ordering.{steps_after_seen}
use Rattle.csq_queue.proofs.laws.steps_come_after_what_was_seen.Goals as goal

pub returns : goal.returns
returns c = steps_after_seen
