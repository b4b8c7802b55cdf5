use Rattle.std.proofs.Common.{◌≡◌, ◌+◌, ◌-◌}
use Rattle.csq_queue.proofs.Imports.{IsRackOn, FirstAreBack, GivenBack}
use Rattle.csq_queue.proofs.open.queue.OpenQueue.give_rest.Given as goal

-- all that were taken so far are back
abbrev pub invariant-rest : goal.invariant-rest
invariant-rest g l =
    (l.self.table ≡ l.fn.self.table)
    × (l.self.limits ≡ l.fn.self.limits)
    × (l.rack.left + l.counter ≡ l.fn.rack.left)
    × IsRackOn l.words l.rack
    × FirstAreBack (l.fn.self.limits.passes - l.rack.left) l.self.queue.back
    × GivenBack (l.fn.self.limits.passes - l.fn.rack.left) (l.fn.self.limits.passes - l.rack.left) l.fn.self.queue l.self.queue
