use Rattle.csq_words.proofs.OneHistory.{back_see}
use Rattle.csq_words.proofs.laws.passes_back_see_one_history.Goals as goal

pub returns : goal.returns
returns c = back_see
