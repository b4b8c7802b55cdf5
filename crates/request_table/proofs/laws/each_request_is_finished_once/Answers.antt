use Rattle.request_table.proofs.Finishing.{counted}
use Rattle.request_table.proofs.laws.each_request_is_finished_once.Goals as goal

pub returns : goal.returns
returns c irps files calls are i = (counted irps files calls are).count i
