use Rattle.csq_words.proofs.Stories.{no_two_stories}
use Rattle.csq_words.proofs.laws.no_irp_has_two_stories.Goals as goal

pub returns : goal.returns
returns c = no_two_stories
