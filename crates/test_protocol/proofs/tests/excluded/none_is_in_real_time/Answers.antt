use Rattle.test_protocol.proofs.Timing.{none_is_in_real_time}
use Rattle.test_protocol.proofs.tests.excluded.none_is_in_real_time.Goals as goal

pub returns : goal.returns
returns c = none_is_in_real_time
