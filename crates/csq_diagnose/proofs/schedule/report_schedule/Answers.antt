use Rattle.std.proofs.Common.{[]}
use Rattle.irp_core.specs.Runs.{Size}
use Rattle.csq_diagnose.proofs.Reporting.{if_ok}
use Rattle.csq_diagnose.proofs.Reported.{schedule_reported}
use Rattle.csq_diagnose.proofs.schedule.report_schedule.Goals as goal

pub returns : goal.returns
returns g c =
    let size : Size = record { irps = c.args.irps; passes = c.args.passes; first = 0 } in
    if_ok c.report_input.result (schedule_reported c.args.explains size c.args.claims c.args.input.now) (c.report_input.ensures (size, c.args.claims, c.args.explains) [] c.in_ok-explanation.ensures)
