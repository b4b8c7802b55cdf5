use Rattle.std.proofs.Common.{subst, List}
use Rattle.csq_diagnose.proofs.Imports.{MatchOption, words_of, Expected, Fit, IsFirstMisfit}
use Rattle.csq_diagnose.proofs.Following.{is_found}
use Rattle.csq_diagnose.proofs.misfit.Misfit.find.Goals as goal

pub returns : goal.returns
returns c =
    let line = c.args.line.now in
    is_found c.args.grammar line c.first_misfit.result
    (subst (λ (places : List Expected). MatchOption c.first_misfit.result (Fit places (words_of line)) (IsFirstMisfit places line)) c.places.ensures c.first_misfit.ensures)
