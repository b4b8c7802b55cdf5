use Rattle.csq_queue.proofs.StoriesLeft.{story_left}
use Rattle.csq_queue.proofs.laws.each_irp_left_has_a_story.Goals as goal

pub returns : goal.returns
returns c = λ limits pass receipts taken listing finals rest i begun. story_left limits finals rest.irps rest.last rest.back.all i begun
