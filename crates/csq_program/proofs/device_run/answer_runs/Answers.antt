use Rattle.std.proofs.Common.{List, ℕ, string_bytes, rules, subst}
use Rattle.std.specs.Io.KnownBytes.{Appends}
use Rattle.csq_program.proofs.RunTexts.{runs_none, runs_more}
use Rattle.csq_program.proofs.device_run.answer_runs.Goals as goal

pub loop-run-init : goal.loop-run-init
loop-run-init g c = runs_none c.args.plan c.args.totals (g.W.Write.contents c.args.writer.now)

pub loop-run-preserved : goal.loop-run-preserved
loop-run-preserved g c =
    let Grew : List ℕ → Type 0 = λ t. Appends (g.W.Write.contents c.loop-run.writer) (g.W.Write.contents c.write_all.new.self) t in
    let written : Grew c.as_bytes.result.now = search rules in
    runs_more c.args.plan c.args.totals c.loop-run._run (g.W.Write.contents c.args.writer.now) (g.W.Write.contents c.loop-run.writer) (g.W.Write.contents c.write_all.new.self) c.loop-run.invariant
    (string_bytes c.in_ok-text.text, c.in_ok-text.ensures.reported, subst Grew c.as_bytes.ensures.value written)
