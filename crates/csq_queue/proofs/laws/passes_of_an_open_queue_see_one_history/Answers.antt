use Rattle.csq_queue.proofs.StoriesLeft.{open_see}
use Rattle.csq_queue.proofs.laws.passes_of_an_open_queue_see_one_history.Goals as goal

pub returns : goal.returns
returns c = open_see
