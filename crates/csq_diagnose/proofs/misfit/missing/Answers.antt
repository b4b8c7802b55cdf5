use Rattle.std.proofs.Common.{refl, sym, ◌∙◌, ltb-true}
use Rattle.csq_diagnose.proofs.Walking.{item_expected}
use Rattle.csq_diagnose.proofs.misfit.missing.Goals as goal

pub returns-clause-some : goal.returns-clause-some
returns-clause-some c =
    let found = c.in_ok-expected.ensures.lookup in
    let below = ltb-true _ _ (sym found.0) in
    (refl, below, refl, refl, found.1 ∙ item_expected c.args.before c.args.places.now _ below)
