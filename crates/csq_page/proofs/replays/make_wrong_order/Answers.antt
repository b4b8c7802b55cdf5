use Rattle.irp_core.specs.Runs.{Size}
use Rattle.csq_explain.specs.Executions.{StopsFor}
use Rattle.csq_explain.specs.WrongOrders.{WrongLine, WrongCloses, new_wrong}
use Rattle.csq_diagnose.specs.Schedules.{ReportsReason}
use Rattle.csq_diagnose.proofs.Reporting.{if_ok}
use Rattle.csq_page.proofs.Reports.{until_told}
use Rattle.csq_page.proofs.replays.make_wrong_order.Goals as goal

pub returns : goal.returns
returns g c =
    let size : Size = record { irps = c.args.irps; passes = c.args.passes; first = 0 } in
    if_ok c.report_wrong_order.result (until_told (WrongLine size) (λ d. StopsFor size d.own) (WrongCloses size) ReportsReason new_wrong c.args.input.now) c.report_wrong_order.ensures
