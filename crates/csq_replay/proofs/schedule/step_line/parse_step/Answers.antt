use Rattle.csq_replay.proofs.KindWords.{no_kind}
use Rattle.csq_replay.proofs.schedule.step_line.parse_step.Goals as goal

pub returns-in_err-kind : goal.returns-in_err-kind
returns-in_err-kind c =
    let cut = rw c.in_ok-rest.was at c.split_piece.ensures.pieces in
    rw c.from_residual-in_err-kind.ensures (no_kind c.args.line.now c.split_piece.result.0.now c.in_ok-rest.field-0.now cut c.in_err-kind.ensures)
