use Rattle.std.proofs.Common.{length, map, replicate, ◌∙◌, ap, arith}
use Rattle.std.proofs.lemmas.List.{length-replicate}
use Rattle.csq_draw.specs.Windows.{cut, open_in, place, places, shown_passes}
use Rattle.csq_draw.proofs.Imports.{elements_of, end_of, irps_after, new_irp, option_map}
use Rattle.csq_draw.proofs.Growing.{drew_same}
use Rattle.csq_draw.proofs.Known.{length-after}
use Rattle.csq_draw.proofs.Showing.{same_shown, showing}
use Rattle.csq_draw.proofs.WindowColumns.{length-shown}
use Rattle.csq_draw.proofs.sheet.draw_window.Goals as goal

pub draw_sheet-requires-clause-irps : goal.draw_sheet-requires-clause-irps
draw_sheet-requires-clause-irps g c =
    let count = length c.args.sheet.irps.now in
    omega (arith, c.requires.irps, ap length (c.deref-8.ensures.value ∙ c.in_ok-irps.ensures), length-after (replicate count new_irp) c.deref-3.result.now, length-replicate count new_irp)

pub draw_sheet-requires-clause-few : goal.draw_sheet-requires-clause-few
draw_sheet-requires-clause-few g c = omega (arith, c.requires.few, ap length (c.deref-7.ensures.value ∙ c.in_ok-passes.ensures), length-shown c.args.sheet.passes.now c.deref-5.result.now c.deref-6.result.now)

pub returns : goal.returns
returns g c =
    let s = c.args.sheet in
    let w = c.args.window in
    let placed = c.in_ok-places.ensures in
    let rows = c.in_ok-rows.ensures ∙ ap (λ ps. cut w ps 0 s.rows.now) (c.deref.ensures.value ∙ placed) in
    let owners = c.deref-10.ensures.value ∙ c.in_ok-owners.ensures ∙ ap (λ ps. map (open_in w ps) s.owners.now) (c.deref-2.ensures.value ∙ placed) in
    let passes = c.deref-7.ensures.value ∙ c.in_ok-passes.ensures
    ∙ ap (λ r. shown_passes s.passes.now r c.deref-6.result.now) (c.deref-5.ensures.value ∙ rows)
    ∙ ap (shown_passes s.passes.now (cut w (places w 0 s.rows.now) 0 s.rows.now)) (c.deref-6.ensures.value ∙ c.in_ok-owners.ensures ∙ ap (λ ps. map (open_in w ps) s.owners.now) (c.deref-2.ensures.value ∙ placed)) in
    let irps = c.deref-8.ensures.value ∙ c.in_ok-irps.ensures ∙ ap (irps_after (replicate (length s.irps.now) new_irp)) (c.deref-3.ensures.value ∙ rows) in
    let refused = c.place_of-refused.ensures ∙ ap (λ ps. option_map (place ps) s.refused) (c.deref-4.ensures.value ∙ placed) in
    let is = ap (λ r. showing r c.deref-7.result.now c.deref-8.result.now c.deref-9.result.now c.deref-10.result.now) refused
    ∙ same_shown _ c.deref-7.result.now _ _ _ _ _ _ _ passes irps (c.deref-9.ensures.value ∙ rows) owners in
    drew_same g.C.Canvas.added _ _ (λ x. elements_of x (end_of c.args.ending)) _ _ is c.in_ok-draw_sheet.ensures
