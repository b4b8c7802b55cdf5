use Rattle.std.proofs.Common.{refl, sym, ◌∙◌}
use Rattle.csq_diagnose.proofs.Printed.{is_text, got}
use Rattle.csq_diagnose.proofs.misfit.Misfit.found.Goals as goal

pub unreachable-requires : goal.unreachable-requires
unreachable-requires c = c.in-Err.ensures.cases.0 (is_text c.in-Some.word.now (sym c.first_strange.ensures.place ∙ c.in-None.is))

pub returns-in-Some-first_strange : goal.returns-in-Some-first_strange
returns-in-Some-first_strange c =
    let place = sym c.first_strange.ensures.place ∙ c.in-Some-first_strange.is in
    let bound = c.in-Some-first_strange.ensures.bound in
    rw c.in-Some.is (c.in-Some-first_strange.at, (place, got c.in-Some.word.now c.in-Some-first_strange.at 0 bound), refl)
