use Rattle.std.proofs.Common.{rules}
use Rattle.csq_draw.specs.Pictures.{harm_elements}
use Rattle.csq_draw.proofs.picture.draw_each_harm.Goals as goal

pub returns : goal.returns
returns g c = c.draw_each.ensures (harm_elements c.args.rows) (λ n x before r after lt post. search rules)
