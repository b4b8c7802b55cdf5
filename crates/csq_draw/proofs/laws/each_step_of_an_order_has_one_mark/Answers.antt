use Rattle.csq_draw.proofs.OrderLaws.{each_order_mark}
use Rattle.csq_draw.proofs.laws.each_step_of_an_order_has_one_mark.Goals as goal

pub returns : goal.returns
returns c = each_order_mark
