use Rattle.std.proofs.Common.{◌≡◌, drop}
use Rattle.csq_list.proofs.Imports.{deque_iter_rest, first_match}
use Rattle.csq_list.proofs.vec_list.first_that_matches.Given as goal

-- the first match is among the rest
abbrev pub invariant-loop-entry : goal.invariant-loop-entry
invariant-loop-entry g l = first_match l.peek (deque_iter_rest l.entry-iterator) ≡ first_match l.peek (drop l.from l.entries.items)
