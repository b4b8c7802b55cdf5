use Rattle.csq_program.specs.Totals.{WritesRuns}
use Rattle.csq_program.proofs.device_run.answer_runs.Given as goal

-- what was written so far
abbrev pub invariant-loop-run : goal.invariant-loop-run
invariant-loop-run g l = WritesRuns l.plan l.totals l._run (g.W.Write.contents l.fn.writer) (g.W.Write.contents l.writer)
