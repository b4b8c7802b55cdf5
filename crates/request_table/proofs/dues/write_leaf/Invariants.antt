use Rattle.std.proofs.Common.{◌≡◌, ◌<◌, ◌≤◌, ◌+◌, ◌-◌, drop, set}
use Rattle.request_table.proofs.Trees.{IsTreeBut}
use Rattle.request_table.proofs.dues.write_leaf.Given as goal

-- all but the node above the one written last is in order, and the leaves are written
abbrev pub invariant-loop-node : goal.invariant-loop-node
invariant-loop-node l =
    (1 ≤ l.node) × (l.node < l.leaves + l.leaves) × IsTreeBut l.leaves l.times l.node
    × (drop l.leaves l.times ≡ set (drop l.leaves l.fn.times) (l.leaf - l.leaves) l.time)

abbrev pub decreases-loop-node : goal.decreases-loop-node
decreases-loop-node l = l.node
