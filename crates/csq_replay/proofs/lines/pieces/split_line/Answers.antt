use Rattle.csq_replay.proofs.Cuts.{lines_more}
use Rattle.csq_replay.proofs.lines.pieces.split_line.Goals as goal

pub returns-in-Some-clause-lines : goal.returns-in-Some-clause-lines
returns-in-Some-clause-lines c = lines_more c.args.bytes.now c.split_piece.result.0.now c.in-Some.rest.now (rw c.in-Some.is at c.split_piece.ensures.pieces)
