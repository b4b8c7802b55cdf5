use Rattle.std.proofs.Common.{◌≡◌}
use Rattle.csq_checked.proofs.idle.IdlePasses.let_words_go.Given as goal

-- each slot is as it was
abbrev pub invariant-slots : goal.invariant-slots
invariant-slots l = l.self ≡ l.fn.self
