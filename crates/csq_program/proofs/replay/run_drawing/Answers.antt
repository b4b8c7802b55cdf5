use Rattle.irp_core.specs.Runs.{Size}
use Rattle.csq_diagnose.specs.Drawings.{ReportsDrawingEnd}
use Rattle.csq_program.specs.Replays.{IsCutReport}
use Rattle.csq_program.proofs.Endings.{ended_reported}
use Rattle.csq_program.proofs.replay.run_drawing.Goals as goal

pub returns-clause-answered : goal.returns-clause-answered
returns-clause-answered g c =
    let size : Size = record { irps = c.args.irps; passes = c.args.passes; first = 0 } in
    ended_reported (IsCutReport c.args.to (ReportsDrawingEnd size c.args.view.wrong)) _ _ _ _ c.write_drawing-answered.result c.finish.result c.write_drawing-answered.ensures.answered c.finish.ensures
