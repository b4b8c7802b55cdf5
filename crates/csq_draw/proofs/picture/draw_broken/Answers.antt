use Rattle.std.proofs.Common.{◌∷◌, []}
use Rattle.csq_draw.specs.declared.element.Element.TheVariants.{Below}
use Rattle.csq_draw.specs.declared.ending.Below.TheVariants.{Broken}
use Rattle.csq_draw.specs.Pictures.{harms_elements}
use Rattle.csq_draw.proofs.Growing.{drew_more}
use Rattle.csq_draw.proofs.picture.draw_broken.Goals as goal

pub returns : goal.returns
returns g c =
    let rows = c.args.rows in
    drew_more g.C.Canvas.added _ _ _ (Below rows (Broken c.args.line c.args.reason) ∷ []) (harms_elements rows c.args.harms.now) c.in_ok-draw.ensures c.in_ok-draw_harms.ensures
