use Rattle.csq_explain.proofs.OneText.{one_explanation}
use Rattle.csq_explain.proofs.laws.a_schedule_has_one_explanation.Goals as goal

pub returns : goal.returns
returns c = one_explanation
