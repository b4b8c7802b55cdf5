use Rattle.csq_draw.proofs.PictureLaws.{each_mark}
use Rattle.csq_draw.proofs.laws.each_step_has_one_mark.Goals as goal

pub returns : goal.returns
returns c = each_mark
