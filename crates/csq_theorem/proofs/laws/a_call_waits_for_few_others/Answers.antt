use Rattle.csq_theorem.proofs.Waiting.{few_others}
use Rattle.csq_theorem.proofs.laws.a_call_waits_for_few_others.Goals as goal

pub returns : goal.returns
returns c = few_others
