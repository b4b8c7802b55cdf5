use Rattle.std.proofs.Common.{◌≡◌, true, refl, sym, subst, eq-eqb}
use Rattle.std.specs.Prelude.{Option}
use Rattle.irp_core.proofs.Names.{same_irp-refl}
use Rattle.irp_core.specs.Own.{owes_in}
use Rattle.csq_words.specs.Seats.{PassSeatState, pass_record}
use Rattle.test_protocol.proofs.tests.cancels.take.Goals as goal

-- what a Take found is owed
pub returns-clause-owed : goal.returns-clause-owed
returns-clause-owed g c = λ e.
    subst (λ (p : Option PassSeatState). owes_in (pass_record p).steps c.args.name ≡ true) (sym c.take-found.ensures.step) (rw (eq-eqb _ _ e, same_irp-refl) refl)
