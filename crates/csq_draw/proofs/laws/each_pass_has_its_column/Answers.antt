use Rattle.csq_draw.proofs.PictureLaws.{own_column}
use Rattle.csq_draw.proofs.laws.each_pass_has_its_column.Goals as goal

pub returns : goal.returns
returns c = own_column
