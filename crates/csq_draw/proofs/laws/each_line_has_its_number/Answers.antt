use Rattle.csq_draw.proofs.PictureLaws.{each_number}
use Rattle.csq_draw.proofs.laws.each_line_has_its_number.Goals as goal

pub returns : goal.returns
returns c = each_number
