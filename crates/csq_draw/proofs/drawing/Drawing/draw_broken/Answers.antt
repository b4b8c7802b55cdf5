use Rattle.std.proofs.Common.{refl, ◌∙◌}
use Rattle.csq_explain.specs.Harms.{harms_of}
use Rattle.csq_draw.specs.Pictures.{broken_end}
use Rattle.csq_draw.proofs.Imports.{drawn_shown, elements_of, seen}
use Rattle.csq_draw.proofs.Growing.{drew_same}
use Rattle.csq_draw.proofs.drawing.Drawing.draw_broken.Goals as goal

pub returns : goal.returns
returns g c = λ size d stands.
    let refusal = c.args.refusal in
    let harms = c.deref-2.ensures.value ∙ c.in_ok-harms.ensures size.irps d.steps stands.all in
    let shown = seen c.args.self.now.view.window (drawn_shown size d d.refusal) in (
      broken_end refusal.line refusal.reason (harms_of size.irps d.steps),
      refl,
      drew_same g.C.Canvas.added _ _ (λ hs. elements_of shown (broken_end refusal.line refusal.reason hs)) _ _ harms (c.in_ok-draw.ensures size d stands),
    )
