use Rattle.std.proofs.Common.{List, ℕ, subst}
use Rattle.std.specs.Io.KnownBytes.{Appends}
use Rattle.irp_core.specs.Runs.{Size}
use Rattle.csq_diagnose.specs.Drawings.{ReportsDrawingEnd}
use Rattle.csq_program.specs.Replays.{IsCutReport}
use Rattle.csq_program.proofs.answer.write_drawing.Goals as goal

pub returns-clause-answered : goal.returns-clause-answered
returns-clause-answered g c =
    let size : Size = record { irps = c.args.irps; passes = c.args.passes; first = 0 } in
    let Reports : List ℕ → Type 0 = λ input. IsCutReport c.args.to (ReportsDrawingEnd size c.args.view.wrong) input c.in_ok-report.report in
    let Writes : List ℕ → Type 0 = λ written. Appends (g.W.Write.contents c.args.writer.now) (g.W.Write.contents c.write_answer.new.writer) written in
    (_, c.in_ok-input.ensures.read, subst Reports c.deref.ensures.value c.in_ok-report.ensures, subst Writes c.as_bytes.ensures.value c.in_ok-write_answer.ensures.ok)
