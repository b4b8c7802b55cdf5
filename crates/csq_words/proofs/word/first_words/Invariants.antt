use Rattle.std.proofs.Common.{◌≡◌}
use Rattle.csq_words.specs.Words.{new_words}
use Rattle.csq_words.proofs.word.first_words.Given as goal

-- the words of as many IRPs as turns were pushed
abbrev pub invariant-loop : goal.invariant-loop
invariant-loop g l = l.words.items ≡ new_words l.fn.first.0 l.counter
