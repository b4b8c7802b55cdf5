use Rattle.std.proofs.Common.{refl, sym, ◌∙◌}
use Rattle.csq_c.specs.declared.codes.Code.TheVariants.{BadSize}
use Rattle.csq_c.proofs.Handling.{no_number, on_handle}
use Rattle.csq_c.proofs.ledger.requests.csq_ledger_drain_next.Goals as goal

pub returns-in_default-why_numbered : goal.returns-in_default-why_numbered
returns-in_default-why_numbered c =
    on_handle _ _ c.in-Some.body.now c.in-Some.body.now _ BadSize _ _ c.in-Some.ensures.value refl c.number-in_default-why_numbered.ensures
    (no_number _ _ _ (sym c.why_numbered.ensures ∙ c.in_default-why_numbered.is) (refl, refl, refl))
