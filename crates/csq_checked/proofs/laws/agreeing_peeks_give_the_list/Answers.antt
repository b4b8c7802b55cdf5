use Rattle.std.proofs.Common.{None, refl}
use Rattle.csq_checked.proofs.Auditing.{gives}
use Rattle.csq_checked.proofs.laws.agreeing_peeks_give_the_list.Goals as goal

pub returns : goal.returns
returns c = λ es distinct is. gives es distinct es None refl is
