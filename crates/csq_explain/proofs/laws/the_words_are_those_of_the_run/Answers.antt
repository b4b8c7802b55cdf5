use Rattle.csq_explain.proofs.WordLaws.{run_words}
use Rattle.csq_explain.proofs.laws.the_words_are_those_of_the_run.Goals as goal

pub returns : goal.returns
returns c = run_words
