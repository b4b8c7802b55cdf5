use Rattle.csq_theorem.proofs.Correct.{calls_in}
use Rattle.csq_theorem.proofs.laws.calls_are_in_the_execution.Goals as goal

pub returns : goal.returns
returns c = calls_in
