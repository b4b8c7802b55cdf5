use Rattle.std.proofs.Common.{◌≡◌, ◌≤◌, ◌+◌, length}
use Rattle.csq_checked.proofs.Imports.{IsStartIn, is_listed, rest_after, listed, matching}
use Rattle.csq_checked.proofs.judge.peek.stands_after.Given as goal

-- the IRP is among the matches after the last one where it is among all, and each look leaves fewer entries
abbrev pub invariant-matches : goal.invariant-matches
invariant-matches l = record {
  start : IsStartIn (listed l.fn.queue) l.at;
  same : is_listed (matching l.fn.peek (rest_after l.at (listed l.fn.queue))) l.fn.irp ≡ is_listed (matching l.fn.peek (rest_after l.fn.from (listed l.fn.queue))) l.fn.irp;
  nearer : length (rest_after l.at (listed l.fn.queue)) + l.counter ≤ length (listed l.fn.queue);
}
