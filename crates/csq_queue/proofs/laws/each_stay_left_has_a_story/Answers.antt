use Rattle.csq_queue.proofs.StoriesLeft.{stay_left}
use Rattle.csq_queue.proofs.laws.each_stay_left_has_a_story.Goals as goal

pub returns : goal.returns
returns c = stay_left
