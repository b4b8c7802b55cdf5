use Rattle.std.proofs.Common.{◌++◌, ◌∷◌, [], rules}
use Rattle.csq_draw.proofs.Imports.{each, column_elements, word_elements, last_elements}
use Rattle.csq_draw.specs.declared.element.Element.TheVariants.{Lines}
use Rattle.csq_draw.proofs.Growing.{drew_more}
use Rattle.csq_draw.proofs.picture.draw_above.Goals as goal

pub returns : goal.returns
returns g c =
    let passes = c.args.passes.now in
    let irps = c.args.irps.now in
    let count = c.args.count in
    let named = each (column_elements passes count) 0 passes in
    let words = each (word_elements passes irps) 0 irps in
    let last = each (last_elements passes irps count) 0 irps in
    let columns = c.in_ok-draw_each.ensures (column_elements passes count) (λ n x before r after lt post. search rules) in
    let names = c.in_ok-draw_each-2.ensures (word_elements passes irps) (λ n x before r after lt post. search rules) in
    let ends = c.in_ok-draw_each-3.ensures (last_elements passes irps count) (λ n x before r after lt post. search rules) in
    drew_more g.C.Canvas.added _ _ _ (Lines ∷ []) (named ++ (words ++ last)) c.in_ok-draw.ensures
    (drew_more g.C.Canvas.added _ _ _ named (words ++ last) columns (drew_more g.C.Canvas.added _ _ _ words last names ends))
