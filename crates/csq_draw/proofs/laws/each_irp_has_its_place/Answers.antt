use Rattle.csq_draw.proofs.BarLaws.{own_place}
use Rattle.csq_draw.proofs.laws.each_irp_has_its_place.Goals as goal

pub returns : goal.returns
returns c = own_place
