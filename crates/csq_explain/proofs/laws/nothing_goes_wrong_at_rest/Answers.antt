use Rattle.csq_explain.proofs.RestLaws.{rests}
use Rattle.csq_explain.proofs.laws.nothing_goes_wrong_at_rest.Goals as goal

pub returns : goal.returns
returns c = rests
