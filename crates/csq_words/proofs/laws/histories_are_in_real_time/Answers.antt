use Rattle.csq_words.proofs.RealTime.{in_real_time}
use Rattle.csq_words.proofs.laws.histories_are_in_real_time.Goals as goal

pub returns : goal.returns
returns c = in_real_time
