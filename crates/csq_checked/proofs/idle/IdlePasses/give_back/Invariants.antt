use Rattle.std.proofs.Common.{◌≡◌, ◌≤◌, ℕ, length}
use Rattle.csq_checked.proofs.Imports.{with_idle_back, slot_at}
use Rattle.csq_checked.proofs.idle.IdlePasses.give_back.Given as goal

-- those of the passes so far that were idle are back, and the slots after them are as they were
abbrev pub invariant-passes : goal.invariant-passes
invariant-passes l =
    (l.queue ≡ record l.fn.queue { queue = with_idle_back l.fn.self l.at l.fn.queue.queue })
    × (length l.self ≡ length l.fn.self)
    × ((k : ℕ) → l.at ≤ k → slot_at l.self k ≡ slot_at l.fn.self k)
