use Rattle.csq_replay.proofs.CallWords.{next_no_number, next_named, apart}
use Rattle.csq_replay.proofs.script.call_line.parse_next.Goals as goal

pub returns-in_err-parse_number : goal.returns-in_err-parse_number
returns-in_err-parse_number c =
    rw c.from_residual.ensures (next_no_number _ c.in_err-parse_number.ensures (apart _ _ _ _ c.eq.ensures c.if-eq.false c.as_slice.ensures))

pub returns : goal.returns
returns c = next_named _ _ c.in_ok-parse_number.ensures
