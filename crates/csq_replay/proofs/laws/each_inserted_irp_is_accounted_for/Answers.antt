use Rattle.csq_replay.proofs.Handled.{accounted}
use Rattle.csq_replay.proofs.laws.each_inserted_irp_is_accounted_for.Goals as goal

pub returns : goal.returns
returns c = accounted
