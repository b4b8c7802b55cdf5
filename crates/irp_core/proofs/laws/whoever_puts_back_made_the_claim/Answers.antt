use Rattle.irp_core.proofs.Owning.{who_puts_back}
use Rattle.irp_core.proofs.laws.whoever_puts_back_made_the_claim.Goals as goal

pub returns : goal.returns
returns c = who_puts_back
