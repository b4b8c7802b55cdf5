use Rattle.std.proofs.Common.{arith, None, ◌∙◌, ap, ◌++◌, ◌∷◌, []}
use Rattle.csq_draw.specs.Windows.{open_in}
use Rattle.csq_draw.proofs.WindowLaws.{map_all, map_more}
use Rattle.csq_draw.proofs.window.open_owners.Goals as goal

pub loop-owner-preserved : goal.loop-owner-preserved
loop-owner-preserved g c =
    let k = c.loop-owner.owner-index in
    map_more (open_in c.args.window c.args.places.now) c.args.owners.now k None _ _ (omega arith) (c.in_ok-push.ensures.items ∙ ap (λ o. c.loop-owner.lines.items ++ o ∷ []) c.open_in.ensures) c.loop-owner.invariant

pub returns : goal.returns
returns g c = map_all (open_in c.args.window c.args.places.now) c.args.owners.now c.loop-owner.owner-index _ (omega arith) c.loop-owner.invariant
