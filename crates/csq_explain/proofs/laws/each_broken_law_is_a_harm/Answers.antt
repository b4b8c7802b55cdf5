use Rattle.csq_explain.proofs.HarmLaws.{broken_harms}
use Rattle.csq_explain.proofs.laws.each_broken_law_is_a_harm.Goals as goal

pub returns : goal.returns
returns c = broken_harms
