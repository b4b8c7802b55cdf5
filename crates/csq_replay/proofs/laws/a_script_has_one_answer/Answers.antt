use Rattle.csq_replay.proofs.OneScript.{one_script_answer}
use Rattle.csq_replay.proofs.laws.a_script_has_one_answer.Goals as goal

pub returns : goal.returns
returns c = one_script_answer
