use Rattle.std.proofs.Common.{◌≡◌, ◌-◌}
use Rattle.csq_draw.specs.Lanes.{first_free, free_lane}
use Rattle.csq_draw.proofs.lanes.free_lane.Given as goal

-- the lanes so far are taken
abbrev pub invariant-loop-lane : goal.invariant-loop-lane
invariant-loop-lane l = first_free l.owners l.pass (8 - l.lane) l.lane ≡ free_lane l.owners l.pass
