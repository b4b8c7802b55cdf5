use Rattle.csq_queue.proofs.StoriesLeft.{closing_see}
use Rattle.csq_queue.proofs.laws.closing_passes_see_one_history.Goals as goal

pub returns : goal.returns
returns c = closing_see
