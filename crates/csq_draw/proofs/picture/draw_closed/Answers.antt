use Rattle.std.proofs.Common.{◌∷◌, [], ◌++◌, ◌+◌, ◌∙◌, ap, length, rules}
use Rattle.csq_draw.specs.declared.element.Element.TheVariants.{Below}
use Rattle.csq_draw.specs.declared.ending.Below.TheVariants.{AtRest}
use Rattle.csq_draw.specs.Pictures.{each, closing_elements, past_elements}
use Rattle.csq_draw.proofs.Growing.{drew_more, drew_same}
use Rattle.csq_draw.proofs.picture.draw_closed.Goals as goal

pub returns : goal.returns
returns g c =
    let rows = c.args.rows in
    let lives = c.args.lives.now in
    let reported = c.args.reported.now in
    let first = c.in_ok-first.ensures.counted in
    let lines = each (closing_elements c.args.irps.now rows (length lives)) 0 reported in
    let drawn = drew_same g.C.Canvas.added _ _ (λ n. each (closing_elements c.args.irps.now rows n) 0 reported) _ _ first (c.in_ok-draw_each-2.ensures (closing_elements c.args.irps.now rows _) (λ n x before r after lt post. search rules)) in
    let rest = drew_same g.C.Canvas.added _ _ (λ n. Below rows (AtRest n c.args.rest) ∷ []) _ _ (c.in_ok-nth.ensures ∙ ap (λ n. length reported + n) first) c.in_ok-draw.ensures in
    drew_more g.C.Canvas.added _ _ _ (each (past_elements rows) 0 lives) (lines ++ Below rows (AtRest _ c.args.rest) ∷ []) (c.in_ok-draw_each.ensures (past_elements rows) (λ n x before r after lt post. search rules)) (drew_more g.C.Canvas.added _ _ _ lines (Below rows (AtRest _ c.args.rest) ∷ []) drawn rest)
