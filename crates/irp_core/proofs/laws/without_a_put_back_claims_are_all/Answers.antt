use Rattle.irp_core.proofs.Owning.{without_put_back}
use Rattle.irp_core.proofs.laws.without_a_put_back_claims_are_all.Goals as goal

pub returns : goal.returns
returns c = without_put_back
