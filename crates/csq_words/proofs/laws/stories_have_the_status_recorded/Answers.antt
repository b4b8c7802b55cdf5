use Rattle.csq_words.proofs.Stories.{has_status_recorded}
use Rattle.csq_words.proofs.laws.stories_have_the_status_recorded.Goals as goal

pub returns : goal.returns
returns c = has_status_recorded
