use Rattle.std.proofs.Common.{ℕ, Bool, true, false, List, ap}
use Rattle.std.specs.Global.{Global}
use Rattle.irp_core.specs.Runs.{Size}
use Rattle.csq_diagnose.specs.declared.diagnosed.Report.{Report}
use Rattle.csq_program.specs.Replays.{IsReplayReport}
use Rattle.csq_program.proofs.Endings.{ended_by}
use Rattle.csq_program.proofs.replay.run_schedule.Goals.{then-wrong, else-wrong}
use Rattle.csq_program.proofs.replay.run_schedule.Goals as goal

pub returns-clause-answered : goal.returns-clause-answered
returns-clause-answered g c =
    let size : Size = record { irps = c.args.irps; passes = c.args.passes; first = 0 } in
    let Reports : Bool → List ℕ → Report Global → Type 0 = IsReplayReport size c.args.claims c.args.explain in
    let contents = g.W.Write.contents in
    elim c.if-wrong.branch [
      | then-wrong w ↦
          let answered = w.write_wrong_order-answered in
          ended_by Reports c.args.wrong true _ _ _ _ _ c.if-wrong.answered answered.result c.finish.result w.if-wrong.true (ap (λ writer. contents writer.stream) w.writer-is) w.answered-is answered.ensures.answered c.finish.ensures
      | else-wrong w ↦
          let answered = w.write_schedule-answered in
          ended_by Reports c.args.wrong false _ _ _ _ _ c.if-wrong.answered answered.result c.finish.result w.if-wrong.false (ap (λ writer. contents writer.stream) w.writer-is) w.answered-is answered.ensures.answered c.finish.ensures
    ]
