use Rattle.std.proofs.Common.{◌≡◌}
use Rattle.std.specs.VecDeque.{deque_len, deque_capacity}
use Rattle.request_table.specs.Requests.{ids_below}
use Rattle.request_table.proofs.table.all_numbers.Given as goal

-- the numbers so far, with room for all
abbrev pub invariant-loop-number : goal.invariant-loop-number
invariant-loop-number g l = (l.free.items ≡ ids_below l.number) × (deque_len l.free ≡ l.number) × (deque_capacity l.free ≡ l.irps)
