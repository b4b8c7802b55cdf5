use Rattle.csq_draw.proofs.PictureLaws.{each_shade}
use Rattle.csq_draw.proofs.laws.each_shade_is_of_the_lock.Goals as goal

pub returns : goal.returns
returns c = each_shade
