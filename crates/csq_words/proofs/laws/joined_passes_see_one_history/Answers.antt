use Rattle.csq_words.proofs.OneHistory.{joined_see}
use Rattle.csq_words.proofs.laws.joined_passes_see_one_history.Goals as goal

pub returns : goal.returns
returns c = joined_see
