use Rattle.std.proofs.Common.{subst, List, ℕ}
use Rattle.std.specs.Prelude.{IfOk}
use Rattle.irp_core.specs.Runs.{Size}
use Rattle.csq_diagnose.specs.Drawings.{ReportsDrawingEnd}
use Rattle.csq_program.proofs.answer.report_cut_drawing.Goals as goal

pub returns : goal.returns
returns g c =
    let size : Size = record { irps = c.args.irps; passes = c.args.passes; first = 0 } in
    subst (λ (bytes : List ℕ). IfOk c.report_drawing.result (ReportsDrawingEnd size c.args.view.wrong bytes)) c.cut_input.ensures.cut c.report_drawing.ensures
