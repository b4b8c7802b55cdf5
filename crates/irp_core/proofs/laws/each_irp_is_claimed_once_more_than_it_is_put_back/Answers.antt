use Rattle.irp_core.proofs.Owning.{claimed_once_more}
use Rattle.irp_core.proofs.laws.each_irp_is_claimed_once_more_than_it_is_put_back.Goals as goal

pub returns : goal.returns
returns c = claimed_once_more
