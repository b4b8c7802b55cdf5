use Rattle.csq_replay.proofs.Cuts.{piece_at, piece_alone}
use Rattle.csq_replay.proofs.lines.pieces.split_piece.Goals as goal

pub returns-in-Some-clause-pieces : goal.returns-in-Some-clause-pieces
returns-in-Some-clause-pieces c = piece_at c.args.byte c.args.bytes.now c.in-Some.at c.in-Some.ensures

pub returns-in-None-clause-pieces : goal.returns-in-None-clause-pieces
returns-in-None-clause-pieces c = piece_alone c.args.byte c.args.bytes.now c.in-None.ensures
