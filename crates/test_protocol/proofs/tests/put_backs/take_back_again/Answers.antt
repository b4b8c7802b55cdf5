use Rattle.std.proofs.Common.{◌≡◌, true, refl, sym, subst}
use Rattle.std.specs.Prelude.{Option}
use Rattle.irp_core.proofs.Names.{same_irp-refl}
use Rattle.irp_core.specs.Own.{holds_in}
use Rattle.csq_words.specs.Seats.{QueueSeatState, PassSeatState, pass_record, joined_record}
use Rattle.test_protocol.proofs.tests.put_backs.take_back_again.Goals as goal

-- what the put-back found is held
pub returns-clause-held : goal.returns-clause-held
returns-clause-held g c = λ one.
    subst (λ (p : Option PassSeatState). holds_in (pass_record p).steps c.args.name ≡ true) (sym c.leave.ensures.pass)
    (subst (λ (q : QueueSeatState). holds_in (joined_record q).steps c.args.name ≡ true) (sym c.disarm-found.ensures.step) (rw (one, same_irp-refl) refl))
