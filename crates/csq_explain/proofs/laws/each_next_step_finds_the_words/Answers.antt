use Rattle.csq_explain.proofs.WordLaws.{found_words}
use Rattle.csq_explain.proofs.laws.each_next_step_finds_the_words.Goals as goal

pub returns : goal.returns
returns c = found_words
