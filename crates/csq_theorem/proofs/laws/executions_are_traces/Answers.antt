use Rattle.csq_theorem.proofs.Traces.{is_trace}
use Rattle.csq_theorem.proofs.laws.executions_are_traces.Goals as goal

pub returns : goal.returns
returns c = is_trace
