use Rattle.std.proofs.Common.{◌++◌}
use Rattle.csq_draw.proofs.Imports.{above_elements, fresh_irps, owners_elements, rows_elements}
use Rattle.csq_draw.proofs.Growing.{drew_more}
use Rattle.csq_draw.proofs.picture.draw_shown.Goals as goal

pub returns : goal.returns
returns g c =
    let s = c.args.sheet in
    let above = above_elements s.passes.now s.irps.now c.args.count in
    let rows = rows_elements s.passes.now s.irps.now (fresh_irps s.irps.now) s.rows.now in
    let owners = owners_elements s.passes.now c.args.count s.refused s.owners.now in
    drew_more g.C.Canvas.added _ _ _ above (rows ++ owners) c.in_ok-draw_above.ensures (drew_more g.C.Canvas.added _ _ _ rows owners c.in_ok-draw_rows.ensures c.in_ok-draw_owners.ensures)
