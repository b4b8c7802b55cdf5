use Rattle.std.proofs.Common.{◌++◌}
use Rattle.csq_draw.proofs.Imports.{end_of, shown_by, shown_elements}
use Rattle.csq_draw.proofs.Growing.{drew_more}
use Rattle.csq_draw.proofs.picture.draw_picture.Goals as goal

pub returns : goal.returns
returns g c =
    let s = shown_by c.args.sheet in
    let e = end_of c.args.ending in
    let shown = shown_elements s c.args.rows in
    drew_more g.C.Canvas.added _ _ _ shown (e.on_rows s ++ e.below c.args.rows) c.in_ok-draw_shown.ensures
    (drew_more g.C.Canvas.added _ _ _ (e.on_rows s) (e.below c.args.rows) c.in_ok-draw_on_rows.ensures c.in_ok-draw_end.ensures)
