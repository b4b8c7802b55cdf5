use Rattle.std.proofs.Common.{ap, ◌∙◌, arith}
use Rattle.std.specs.Result.{result_ok}
use Rattle.csq_replay.proofs.Imports.{IsAscii-decimal, parse-decimal, IsUtf8-from_ascii}
use Rattle.csq_replay.proofs.lines.pieces.parse_decimal.Goals as goal

pub returns-in_default : goal.returns-in_default
returns-in_default c = λ n lt e. absurd (c.in_default.ensures.cases.0 (rw e (IsUtf8-from_ascii _ (IsAscii-decimal n (omega arith)))))

pub returns : goal.returns
returns c = λ n lt e.
    c.ok.ensures.value ∙ ap result_ok (parse-decimal 32 n c.in-Ok.text.now c.parse.result lt (omega arith) (c.in-Ok.ensures.cases.0 ∙ e) c.parse.ensures.value.0)
