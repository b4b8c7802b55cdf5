use Rattle.csq_draw.proofs.LaneLaws.{lines_apart, ninth_last}
use Rattle.csq_draw.proofs.laws.no_two_lines_share_a_lane.Goals as goal

pub returns-clause-apart : goal.returns-clause-apart
returns-clause-apart c = lines_apart

pub returns-clause-last : goal.returns-clause-last
returns-clause-last c = ninth_last
