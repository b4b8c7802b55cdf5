use Rattle.csq_draw.proofs.OrderLaws.{each_shown_mark}
use Rattle.csq_draw.proofs.laws.each_shown_step_has_one_mark.Goals as goal

pub returns : goal.returns
returns c = each_shown_mark
