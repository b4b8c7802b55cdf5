use Rattle.csq_replay.proofs.NameWords.{no_number, no_life, in_life}
use Rattle.csq_replay.proofs.lines.names.parse_name.Goals as goal

pub returns-in_err-parse_number : goal.returns-in_err-parse_number
returns-in_err-parse_number c = rw c.from_residual.ensures (no_number c.args.word.now c.split_piece.result.0.now _ c.split_piece.ensures.pieces c.in_err-parse_number.ensures)

pub returns-in_err-parse_number-in-Some : goal.returns-in_err-parse_number-in-Some
returns-in_err-parse_number-in-Some c =
    let cut = rw c.in-Some.is at c.split_piece.ensures.pieces in
    rw c.from_residual-in_err-parse_number-in-Some.ensures (no_life c.args.word.now c.split_piece.result.0.now c.in-Some.life.now cut c.in_err-parse_number-in-Some.ensures)

pub returns-in_ok-parse_number-in-Some : goal.returns-in_ok-parse_number-in-Some
returns-in_ok-parse_number-in-Some c =
    let cut = rw c.in-Some.is at c.split_piece.ensures.pieces in
    in_life c.args.word.now c.split_piece.result.0.now c.in-Some.life.now cut c.in_ok-parse_number.field-0 c.in_ok-parse_number-in-Some.field-0 c.in_ok-parse_number.ensures c.in_ok-parse_number-in-Some.ensures
