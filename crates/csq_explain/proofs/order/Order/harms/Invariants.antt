use Rattle.std.proofs.Common.{◌≡◌, ◌++◌, take}
use Rattle.csq_explain.specs.Harms.{end_harms}
use Rattle.csq_explain.proofs.order.Order.harms.Given as goal

-- what went wrong at steps, and then in the end with the IRPs so far
abbrev pub invariant-loop-record : goal.invariant-loop-record
invariant-loop-record g l = l.harms.items ≡ l.fn.self.harms.items ++ end_harms (take l.record-index l.record-items)
