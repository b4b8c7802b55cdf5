use Rattle.csq_queue.proofs.StoriesLeft.{stay_in_open}
use Rattle.csq_queue.proofs.laws.each_stay_in_an_open_queue_has_a_story.Goals as goal

pub returns : goal.returns
returns c = stay_in_open
