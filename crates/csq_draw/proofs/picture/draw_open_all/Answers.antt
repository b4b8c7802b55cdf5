use Rattle.std.proofs.Common.{rules}
use Rattle.csq_draw.specs.Pictures.{open_elements}
use Rattle.csq_draw.proofs.picture.draw_open_all.Goals as goal

pub returns : goal.returns
returns g c = c.draw_each.ensures (open_elements c.args.passes.now c.args.to c.args.end) (λ n x before r after lt post. search rules)
