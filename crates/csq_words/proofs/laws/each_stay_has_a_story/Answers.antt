use Rattle.csq_words.proofs.Stories.{stay_story}
use Rattle.csq_words.proofs.laws.each_stay_has_a_story.Goals as goal

pub returns : goal.returns
returns c = stay_story
