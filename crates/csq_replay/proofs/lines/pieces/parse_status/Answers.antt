use Rattle.std.proofs.Common.{◌∙◌, subst}
use Rattle.csq_replay.proofs.Imports.{ParsesUnsigned, IsUtf8-from_ascii}
use Rattle.csq_replay.proofs.StatusWords.{is_ascii, status_parsed}
use Rattle.csq_replay.proofs.lines.pieces.parse_status.Goals as goal

pub returns-in_default : goal.returns-in_default
returns-in_default c = λ status is. absurd (c.in_default.ensures.cases.0 (IsUtf8-from_ascii _ (is_ascii _ is.1)))

pub returns-in_err-ok : goal.returns-in_err-ok
returns-in_err-ok c = rw c.from_residual.ensures (λ status is.
    let parses = subst (λ w. ParsesUnsigned 32 16 w c.from_str_radix.result) c.in-Ok.ensures.cases.0 c.from_str_radix.ensures.value in
    let some = c.ok.ensures.value ∙ status_parsed c.args.word.now c.from_str_radix.result parses is.1 is.0 in
    let none = c.in_err-ok.was in
    cc (some, none))
