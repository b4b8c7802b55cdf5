use Rattle.std.proofs.Common.{refl}
use Rattle.csq_c.proofs.Handling.{on_handle}
use Rattle.csq_c.proofs.ledger.ends.csq_ledger_close_file.Goals as goal

pub returns : goal.returns
returns c =
    on_handle _ _ c.in-Some.body.now c.close_file.new.self _ c.of_close_file.result _ _ c.in-Some.ensures.value refl c.number-2.ensures
    (c.close_file.result, c.close_file.ensures, c.of_close_file.ensures)
