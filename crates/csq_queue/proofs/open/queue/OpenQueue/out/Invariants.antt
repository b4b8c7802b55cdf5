use Rattle.std.proofs.Common.{◌≡◌, ◌≤◌}
use Rattle.csq_queue.specs.Named.{out_count}
use Rattle.csq_queue.proofs.open.queue.OpenQueue.out.Given as goal

-- those among the passes so far
abbrev pub invariant-passes : goal.invariant-passes
invariant-passes g l = (l.out ≡ out_count l.own l.self.queue.back l.next) × (l.out ≤ l.next)
