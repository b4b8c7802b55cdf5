use Rattle.csq_draw.proofs.OwnerLaws.{each_owner}
use Rattle.csq_draw.proofs.laws.each_drawn_owner_owes_or_holds.Goals as goal

pub returns : goal.returns
returns c = each_owner
