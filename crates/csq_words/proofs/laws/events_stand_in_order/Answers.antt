use Rattle.csq_words.proofs.Placing.{in_order}
use Rattle.csq_words.proofs.laws.events_stand_in_order.Goals as goal

pub returns : goal.returns
returns c = in_order
