use Rattle.csq_queue.proofs.StoriesLeft.{story_left}
use Rattle.csq_queue.proofs.laws.each_irp_of_an_open_queue_has_a_story.Goals as goal

pub returns : goal.returns
returns c = λ limits taken old listing finals closed i begun. story_left limits finals closed.irps closed.last closed.all i begun
