use Rattle.csq_words.proofs.Stories.{is_given_once}
use Rattle.csq_words.proofs.laws.each_irp_is_given_once.Goals as goal

pub returns : goal.returns
returns c = is_given_once
