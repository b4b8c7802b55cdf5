use Rattle.csq_words.proofs.Stories.{a_story}
use Rattle.csq_words.proofs.laws.each_irp_has_a_story.Goals as goal

pub returns : goal.returns
returns c = a_story
