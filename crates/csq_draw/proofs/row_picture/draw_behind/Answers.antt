use Rattle.std.proofs.Common.{◌++◌}
use Rattle.csq_draw.specs.declared.spans.LineEnd.TheVariants.{Step}
use Rattle.csq_draw.proofs.Imports.{shade_elements, span_elements, arrow_elements, found_at}
use Rattle.csq_draw.specs.Pictures.{words_until}
use Rattle.csq_draw.proofs.Growing.{drew_more}
use Rattle.csq_draw.proofs.row_picture.draw_behind.Goals as goal

pub returns : goal.returns
returns g c =
    let passes = c.args.passes.now in
    let row = c.args.row in
    let before = c.args.before in
    let shade = shade_elements passes row row.lock in
    let span = span_elements passes row.row Step row.ended in
    let bars = words_until passes c.args.irps.now before row in
    let arrow = arrow_elements passes row (found_at before row) in
    drew_more g.C.Canvas.added _ _ _ shade (span ++ (bars ++ arrow)) c.in_ok-draw_shade.ensures
    (drew_more g.C.Canvas.added _ _ _ span (bars ++ arrow) c.in_ok-draw_line.ensures (drew_more g.C.Canvas.added _ _ _ bars arrow c.in_ok-draw_words.ensures c.in_ok-draw_found.ensures))
