use Rattle.irp_core.specs.Runs.{Size}
use Rattle.csq_explain.specs.WrongOrders.{new_wrong}
use Rattle.csq_diagnose.proofs.schedule.report_wrong_order.Goals as goal

pub report_input-requires : goal.report_input-requires
report_input-requires g c =
    let size : Size = record { irps = c.args.irps; passes = c.args.passes; first = 0 } in
    (size, new_wrong, c.in_ok-order.ensures)

pub returns : goal.returns
returns g c =
    let size : Size = record { irps = c.args.irps; passes = c.args.passes; first = 0 } in
    c.report_input.ensures size new_wrong c.in_ok-order.ensures
