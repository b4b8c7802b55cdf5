use Rattle.csq_theorem.proofs.Runs.{is_run}
use Rattle.csq_theorem.proofs.laws.executions_are_runs.Goals as goal

pub returns : goal.returns
returns c = is_run
