use Rattle.irp_core.proofs.Own.{inside_of-own, owes_in-own, holds_in-own}
use Rattle.irp_core.proofs.Owning.{removed_in-own}
use Rattle.irp_core.proofs.laws.own_steps_show_what_a_pass_owns.Goals as goal

pub returns : goal.returns
returns c = λ size E r p i. (inside_of-own p E, owes_in-own p i E, holds_in-own p i E, removed_in-own size p i E r)
