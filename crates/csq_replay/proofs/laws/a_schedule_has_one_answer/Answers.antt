use Rattle.csq_replay.proofs.OneAnswer.{one_schedule_answer}
use Rattle.csq_replay.proofs.laws.a_schedule_has_one_answer.Goals as goal

pub returns : goal.returns
returns c = one_schedule_answer
