use Rattle.std.proofs.Common.{◌≡◌, ◌≤◌, take, drop, length}
use Rattle.csq_diagnose.proofs.Imports.{words_of, Fit}
use Rattle.csq_diagnose.proofs.misfit.first_misfit.Given as goal

-- the words so far stand in their places, and the text has the others
abbrev pub invariant-loop-expected : goal.invariant-loop-expected
invariant-loop-expected l = record {
  counted : l.before ≡ l.expected-index;
  begun : Fit (take l.before l.places) (take l.before (words_of l.line));
  left : drop l.before (words_of l.line) ≡ words_of l.text;
  short : length l.text ≤ length l.line;
}
