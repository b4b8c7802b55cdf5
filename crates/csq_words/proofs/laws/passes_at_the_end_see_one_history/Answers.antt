use Rattle.csq_words.proofs.OneHistory.{final_see}
use Rattle.csq_words.proofs.laws.passes_at_the_end_see_one_history.Goals as goal

pub returns : goal.returns
returns c = final_see
