use Rattle.std.proofs.Common.{◌∙◌, ap, length, replicate, arith}
use Rattle.std.proofs.lemmas.List.{length-replicate}
use Rattle.csq_draw.specs.WrongRows.{shown_makers}
use Rattle.csq_draw.proofs.Imports.{elements_of, end_of, irps_after, new_irp, seen, shown_by}
use Rattle.csq_draw.proofs.Growing.{drew_same}
use Rattle.csq_draw.proofs.Known.{length-after}
use Rattle.csq_draw.proofs.OrderShowing.{drawn_is, length-shown_makers}
use Rattle.csq_draw.proofs.Showing.{same_shown, showing}
use Rattle.csq_draw.proofs.drawing.Drawing.draw.Goals as goal

pub draw_seen-requires-clause-few : goal.draw_seen-requires-clause-few
draw_seen-requires-clause-few g c =
    let made = c.sheet-sheet.ensures.passes ∙ c.deref-3.ensures.value ∙ c.in_ok-passes.ensures in
    omega (arith, c.requires.few, ap length made, length-shown_makers c.args.self.now.refusal c.deref.result.now c.deref-2.result.now, ap length c.deref.ensures.value)

pub draw_seen-requires-clause-irps : goal.draw_seen-requires-clause-irps
draw_seen-requires-clause-irps g c =
    let self = c.args.self.now in
    let count = length self.owners.items in
    omega (arith, c.requires.irps, ap length (c.sheet-sheet.ensures.irps ∙ c.requires.known), length-after (replicate count new_irp) self.rows.items, length-replicate count new_irp)

pub returns : goal.returns
returns g c = λ size d stands.
    let self = c.args.self.now in
    let sheet = c.sheet-sheet.result in
    let is = c.sheet-sheet.ensures in
    let made = is.passes ∙ c.deref-3.ensures.value ∙ c.in_ok-passes.ensures ∙ ap (λ ps. shown_makers self.refusal ps c.deref-2.result.now) c.deref.ensures.value
    ∙ ap (shown_makers self.refusal self.execution.passes.items) c.deref-2.ensures.value in
    let shows = same_shown sheet.refused _ _ _ _ _ _ _ _ made (is.irps ∙ c.requires.known) is.rows is.owners
    ∙ ap (λ r. showing r (shown_makers self.refusal self.execution.passes.items self.rows.items) (irps_after (replicate (length self.owners.items) new_irp) self.rows.items) self.rows.items self.owners.items) is.refused ∙ drawn_is self size d stands in
    drew_same g.C.Canvas.added _ _ (λ x. elements_of (seen self.view.window x) (end_of c.args.ending)) (shown_by sheet) _ shows c.in_ok-draw_seen.ensures
