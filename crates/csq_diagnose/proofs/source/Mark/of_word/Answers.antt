use Rattle.std.proofs.Common.{◌≡◌, ◌-◌, ◌+◌, drop, length, ap, sym, ◌∙◌}
use Rattle.std.proofs.lemmas.List.Splits.{join_with_byte-slice_split}
use Rattle.csq_diagnose.proofs.Imports.{join_with_byte, words_of, words_left}
use Rattle.csq_diagnose.proofs.source.Mark.of_word.Goals as goal

pub returns-in-Some : goal.returns-in-Some
returns-in-Some c =
    let line = c.args.line.now in
    let text = c.in-Some.text.now in
    let left : words_of text ≡ drop c.args.before (words_of line) = sym (ap words_left c.in-Some.is) ∙ c.text_after.ensures.words in
    let joined : join_with_byte 32 (drop c.args.before (words_of line)) ≡ text = ap (join_with_byte 32) (sym left) ∙ join_with_byte-slice_split 32 text in
    ap (λ t. length line - length t + 1) (sym joined)
