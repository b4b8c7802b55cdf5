use Rattle.irp_core.specs.Runs.{Size}
use Rattle.csq_draw.specs.Drawings.{new_drawn}
use Rattle.csq_diagnose.proofs.Drawings.{drawing_reported}
use Rattle.csq_diagnose.proofs.Reporting.{if_ok}
use Rattle.csq_diagnose.proofs.drawing.report_drawing.Goals as goal

pub report_input-requires : goal.report_input-requires
report_input-requires g c =
    let size : Size = record { irps = c.args.irps; passes = c.args.passes; first = 0 } in
    ((size, c.args.view), new_drawn, c.in_ok-drawing.ensures)

pub returns : goal.returns
returns g c =
    let size : Size = record { irps = c.args.irps; passes = c.args.passes; first = 0 } in
    if_ok c.report_input.result (λ report is. record { ends = is; kept = λ stays. drawing_reported size c.args.view.wrong c.args.input.now report stays is }) (c.report_input.ensures (size, c.args.view) new_drawn c.in_ok-drawing.ensures)
