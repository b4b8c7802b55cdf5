use Rattle.std.proofs.Common.{rules}
use Rattle.csq_draw.specs.HarmMarks.{row_harm}
use Rattle.csq_draw.proofs.harm_marks.draw_row_harms.Goals as goal

pub returns : goal.returns
returns g c = c.draw_each.ensures (row_harm c.args.passes.now c.args.lines.now) (λ n x before r after lt post. search rules)
