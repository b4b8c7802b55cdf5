use Rattle.csq_draw.proofs.PictureLaws.{shaded}
use Rattle.csq_draw.proofs.laws.the_shaded_pass_has_the_lock.Goals as goal

pub returns : goal.returns
returns c = shaded
