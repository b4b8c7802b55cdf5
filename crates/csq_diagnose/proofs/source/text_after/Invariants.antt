use Rattle.std.proofs.Common.{◌≡◌, ◌≤◌, drop, length}
use Rattle.std.specs.Option.{ForSome}
use Rattle.csq_diagnose.proofs.Imports.{words_of, words_left}
use Rattle.csq_diagnose.proofs.source.text_after.Given as goal

-- as many words are left out as the counter says
abbrev pub invariant-loop : goal.invariant-loop
invariant-loop l = record {
  words : words_left l.text ≡ drop l.counter (words_of l.line);
  short : ForSome l.text (λ text. length text.now ≤ length l.line);
}
