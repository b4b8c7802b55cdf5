use Rattle.csq_replay.proofs.CallWords.{insert_no_place}
use Rattle.csq_replay.proofs.script.call_line.parse_insert.Goals as goal

pub returns-in_err-parse_place : goal.returns-in_err-parse_place
returns-in_err-parse_place c =
    let cut = rw c.in_ok-rest.was at c.split_piece.ensures.pieces in
    let cut_file = rw c.in_ok-place.was at c.split_piece-2.ensures.pieces in
    rw c.from_residual-in_err-parse_place.ensures (insert_no_place c.args.operands.now c.split_piece.result.0.now c.in_ok-rest.field-0.now c.split_piece-2.result.0.now c.in_ok-place.field-0.now cut cut_file c.in_err-parse_place.ensures)
