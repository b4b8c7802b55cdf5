use Rattle.std.proofs.Common.{◌≡◌, replicate, None}
use Rattle.csq_checked.proofs.idle.IdlePasses.new.Given as goal

-- one empty slot for each turn so far
abbrev pub invariant-slots : goal.invariant-slots
invariant-slots l = l.slots.items ≡ replicate l.counter None
