use Rattle.std.proofs.Common.{refl, sym, ◌∙◌, ap}
use Rattle.csq_draw.specs.Endings.{rest_of}
use Rattle.csq_draw.specs.Lives.{past_lives}
use Rattle.csq_draw.specs.Pictures.{closed_end}
use Rattle.csq_draw.specs.Rows.{rows_of}
use Rattle.csq_draw.proofs.Imports.{close_of, drawn_shown, elements_of, irps_of, seen}
use Rattle.csq_draw.proofs.Growing.{drew_same}
use Rattle.csq_draw.proofs.OrderShowing.{kept_follows, kept_irps, kept_rows}
use Rattle.csq_draw.proofs.drawing.Drawing.draw_kept.Goals as goal

pub returns : goal.returns
returns g c = λ size d stands unbroken.
    let self = c.args.self.now in
    let none = sym stands.since ∙ unbroken in
    let follows = kept_follows self size d stands none in
    let irps = irps_of size d.kept in
    let lives = past_lives irps (rows_of size d.kept) in
    let reported = c.in_ok-closing.closing.reported.items in
    let at_rest = c.in_ok-closing.closing.rest in
    let known = c.in_ok-irps.ensures ∙ kept_irps self size d stands none in
    let past = c.deref-5.ensures.value ∙ c.in_ok-lives.ensures ∙ ap (past_lives c.deref.result.now) (c.deref-2.ensures.value ∙ kept_rows self size d stands none)
    ∙ ap (λ xs. past_lives xs (rows_of size d.kept)) (c.deref.ensures.value ∙ known) in
    let rest = c.rest_of-rest.ensures ∙ ap (λ ps. rest_of ps at_rest) (c.deref-3.ensures.value ∙ follows.passes) in
    let added = g.C.Canvas.added in
    let shown = seen self.view.window (drawn_shown size d d.refusal) in
    let first = drew_same added _ _ (λ xs. elements_of shown (closed_end xs c.deref-5.result.now c.deref-6.result.now c.rest_of-rest.result)) _ _ (c.deref-4.ensures.value ∙ known) (c.in_ok-draw.ensures size d stands) in
    let second = drew_same added _ _ (λ ls. elements_of shown (closed_end irps ls c.deref-6.result.now c.rest_of-rest.result)) _ _ past first in
    let third = drew_same added _ _ (λ ts. elements_of shown (closed_end irps lives ts c.rest_of-rest.result)) _ _ c.deref-6.ensures.value second in (
      close_of size d.kept reported at_rest,
      (reported, at_rest, c.in_ok-closing.ensures.closes size d.kept follows, refl),
      drew_same added _ _ (λ r. elements_of shown (closed_end irps lives reported r)) _ _ rest third,
    )
