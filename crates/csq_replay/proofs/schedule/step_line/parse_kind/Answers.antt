use Rattle.csq_replay.proofs.KindWords.{no_name, verb_decides}
use Rattle.csq_replay.proofs.schedule.step_line.parse_kind.Goals as goal

pub returns-in_err-parse_name-in-Some : goal.returns-in_err-parse_name-in-Some
returns-in_err-parse_name-in-Some c =
    let cut = rw c.in-Some.is at c.split_piece.ensures.pieces in
    rw c.from_residual.ensures (no_name c.args.text.now c.split_piece.result.0.now c.in-Some.operand.now cut c.in_err-parse_name-in-Some.ensures)

pub returns-in_ok-parse_name-in-Some : goal.returns-in_ok-parse_name-in-Some
returns-in_ok-parse_name-in-Some c =
    let cut = rw c.in-Some.is at c.split_piece.ensures.pieces in
    verb_decides c.args.text.now c.split_piece.result.0.now c.in-Some.operand.now cut c.in_ok-parse_name-in-Some.field-0 c.in_ok-parse_name-in-Some.ensures c.kind_named.result c.kind_named.ensures
