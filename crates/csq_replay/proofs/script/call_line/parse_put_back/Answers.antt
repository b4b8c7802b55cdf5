use Rattle.csq_replay.proofs.CallWords.{put_back_no_place}
use Rattle.csq_replay.proofs.script.call_line.parse_put_back.Goals as goal

pub returns-in_err-parse_place : goal.returns-in_err-parse_place
returns-in_err-parse_place c =
    let cut = rw c.in_ok-place.was at c.split_piece.ensures.pieces in
    rw c.from_residual-in_err-parse_place.ensures (put_back_no_place c.args.operands.now c.split_piece.result.0.now c.in_ok-place.field-0.now cut c.in_err-parse_place.ensures)
