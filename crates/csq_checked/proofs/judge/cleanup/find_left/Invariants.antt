use Rattle.std.proofs.Common.{◌≡◌, ◌≤◌, ◌+◌, length}
use Rattle.csq_checked.proofs.Imports.{IsStartIn, rest_after, listed, first_left}
use Rattle.csq_checked.proofs.judge.cleanup.find_left.Given as goal

-- nothing up to the last IRP is left, and each look leaves fewer entries
abbrev pub invariant-matches : goal.invariant-matches
invariant-matches l = record {
  start : IsStartIn (listed l.fn.queue) l.at;
  same : first_left l.fn.excused l.fn.file (rest_after l.at (listed l.fn.queue)) ≡ first_left l.fn.excused l.fn.file (listed l.fn.queue);
  nearer : length (rest_after l.at (listed l.fn.queue)) + l.counter ≤ length (listed l.fn.queue);
}
