use Rattle.std.proofs.Common.{◌++◌, ◌∷◌, []}
use Rattle.csq_draw.proofs.Imports.{number_element, behind_elements, mark_element, call_elements}
use Rattle.csq_draw.proofs.Growing.{drew_more}
use Rattle.csq_draw.proofs.row_picture.draw_row.Goals as goal

pub returns : goal.returns
returns g c =
    let passes = c.args.passes.now in
    let row = c.args.row in
    let behind = behind_elements passes c.args.irps.now c.args.before row in
    let mark = mark_element passes c.args.irps.now row in
    let call = call_elements passes c.args.before row row.legality in
    drew_more g.C.Canvas.added _ _ _ (number_element row ∷ []) (behind ++ mark ∷ call) c.in_ok-draw_number.ensures
    (drew_more g.C.Canvas.added _ _ _ behind (mark ∷ call) c.in_ok-draw_behind.ensures (drew_more g.C.Canvas.added _ _ _ (mark ∷ []) call c.in_ok-draw_mark.ensures c.in_ok-draw_call.ensures))
