use Rattle.std.proofs.Common.{rules}
use Rattle.csq_list.proofs.Positions.{position-below, file-at}
use Rattle.csq_list.proofs.vec_list.VecList.remove_behind.Goals as goal

pub index-requires : goal.index-requires
index-requires g c = let below = position-below c.args.self.now.entries.items c.args.irp c.index-index.result c.index-index.ensures in search rules

pub take_at-requires-clause-file : goal.take_at-requires-clause-file
take_at-requires-clause-file g c =
    let l = c.args.self.now in
    file-at l.entries.items c.args.irp c.index-index.result c.index.result.now l.sound.distinct c.index-index.ensures c.index.ensures
