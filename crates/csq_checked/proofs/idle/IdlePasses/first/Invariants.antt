use Rattle.std.proofs.Common.{◌≡◌, ◌<◌, ℕ, None}
use Rattle.csq_checked.specs.Slots.{slot_at}
use Rattle.csq_checked.proofs.idle.IdlePasses.first.Given as goal

-- the slots so far are empty
abbrev pub invariant-slots : goal.invariant-slots
invariant-slots l = (k : ℕ) → k < l.at → slot_at l.self k ≡ None
