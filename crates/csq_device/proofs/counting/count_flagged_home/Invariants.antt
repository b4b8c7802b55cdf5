use Rattle.std.proofs.Common.{◌≡◌}
use Rattle.csq_device.specs.Rests.{flagged_home_count}
use Rattle.csq_device.proofs.counting.count_flagged_home.Given as goal

-- those of the IRPs so far
abbrev pub invariant-loop-number : goal.invariant-loop-number
invariant-loop-number g l = l.flagged ≡ flagged_home_count (g.L.PendingList.listing l.rest.list) l.rest.finals l.number
