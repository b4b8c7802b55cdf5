use Rattle.std.proofs.Common.{◌≡◌, ◌≤◌}
use Rattle.csq_checked.specs.Idle.{count_out}
use Rattle.csq_checked.proofs.idle.IdlePasses.out.Given as goal

-- those among the passes so far
abbrev pub invariant-passes : goal.invariant-passes
invariant-passes l = (l.out ≡ count_out l.self l.next) × (l.out ≤ l.next)
