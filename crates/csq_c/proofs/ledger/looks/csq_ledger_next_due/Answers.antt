use Rattle.std.proofs.Common.{None, Some, refl}
use Rattle.csq_c.specs.declared.codes.Code.TheVariants.{Done, Nothing}
use Rattle.csq_c.proofs.Handling.{looks_at}
use Rattle.csq_c.proofs.ledger.looks.csq_ledger_next_due.Goals as goal

pub returns-in_default-next_due : goal.returns-in_default-next_due
returns-in_default-next_due c =
    looks_at _ _ c.in-Some.body.now _ Nothing _ _ c.in-Some.ensures.value refl c.number-in_default-next_due.ensures
    (None, tt, c.in_default-next_due.ensures.none, refl, refl)

pub returns : goal.returns
returns c =
    looks_at _ _ c.in-Some.body.now _ Done _ _ c.in-Some.ensures.value refl c.number-2.ensures
    (Some c.in-Some-next_due.time, c.in-Some-next_due.ensures.some, tt, refl, refl)
