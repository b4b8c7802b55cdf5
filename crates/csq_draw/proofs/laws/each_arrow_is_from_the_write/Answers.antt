use Rattle.csq_draw.proofs.ArrowLaws.{each_arrow}
use Rattle.csq_draw.proofs.laws.each_arrow_is_from_the_write.Goals as goal

pub returns : goal.returns
returns c = each_arrow
