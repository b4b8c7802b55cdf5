use Rattle.irp_core.specs.Runs.{Size}
use Rattle.csq_diagnose.proofs.Reporting.{if_ok}
use Rattle.csq_page.proofs.Reports.{drawing_told}
use Rattle.csq_page.proofs.draws.make_drawing.Goals as goal

pub returns : goal.returns
returns g c =
    let size : Size = record { irps = c.args.irps; passes = c.args.passes; first = 0 } in
    if_ok c.report_drawing.result (drawing_told size c.args.view.wrong c.args.input.now) c.report_drawing.ensures
