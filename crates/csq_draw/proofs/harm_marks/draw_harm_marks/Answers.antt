use Rattle.std.proofs.Common.{◌∙◌}
use Rattle.csq_draw.specs.HarmMarks.{row_harm}
use Rattle.csq_draw.proofs.Growing.{drew_same}
use Rattle.csq_draw.proofs.Imports.{each}
use Rattle.csq_draw.proofs.harm_marks.draw_harm_marks.Goals as goal

pub returns : goal.returns
returns g c =
    let passes = c.args.passes.now in
    let rows = c.args.rows.now in
    drew_same g.C.Canvas.added _ _ (λ lines. each (row_harm passes lines) 0 rows) _ _ (c.deref.ensures.value ∙ c.in_ok-lines.ensures) c.in_ok-draw_row_harms.ensures
