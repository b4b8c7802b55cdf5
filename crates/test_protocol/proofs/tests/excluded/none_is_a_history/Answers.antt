use Rattle.test_protocol.proofs.Excluding.{none_is_a_history}
use Rattle.test_protocol.proofs.tests.excluded.none_is_a_history.Goals as goal

pub returns : goal.returns
returns c = none_is_a_history
