use Rattle.std.proofs.Common.{◌≡◌, ◌<◌, ◌≤◌, ◌+◌, ◌-◌, get_or}
use Rattle.request_table.proofs.dues.least_leaf.Given as goal

-- the way down stays at the least time
abbrev pub invariant-loop-node : goal.invariant-loop-node
invariant-loop-node l = (1 ≤ l.node) × (l.node < l.leaves + l.leaves) × (get_or l.times l.node 0 ≡ get_or l.times 1 0)

abbrev pub decreases-loop-node : goal.decreases-loop-node
decreases-loop-node l = l.leaves + l.leaves - l.node
