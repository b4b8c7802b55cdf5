use Rattle.csq_list.specs.VecParts.{listing_of}
use Rattle.csq_list.proofs.vec_list.VecList.with_pool.Goals as goal

pub returns : goal.returns
returns g c = λ k. listing_of (c.in_ok-entries.ensures.items k) c.args.pool.used.items c.args.pool.closed.items c.args.pool.limit c.args.pool.counts.limits.items
