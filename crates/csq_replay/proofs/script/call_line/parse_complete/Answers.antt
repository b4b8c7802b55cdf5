use Rattle.csq_replay.proofs.CallWords.{complete_no_status, complete_named}
use Rattle.csq_replay.proofs.script.call_line.parse_complete.Goals as goal

pub returns-in_err-parse_status : goal.returns-in_err-parse_status
returns-in_err-parse_status c =
    let cut = rw c.in_ok-status.was at c.split_piece.ensures.pieces in
    rw c.from_residual-in_err-parse_status.ensures (complete_no_status c.args.operands.now c.split_piece.result.0.now c.in_ok-status.field-0.now cut c.in_err-parse_status.ensures)

pub returns : goal.returns
returns c =
    let cut = rw c.in_ok-status.was at c.split_piece.ensures.pieces in
    complete_named c.args.operands.now c.split_piece.result.0.now c.in_ok-status.field-0.now cut _ _ c.in_ok-parse_number.ensures c.in_ok-parse_status.ensures
