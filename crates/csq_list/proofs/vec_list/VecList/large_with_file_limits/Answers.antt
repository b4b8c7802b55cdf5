use Rattle.std.proofs.Common.{refl, sym, subst}
use Rattle.csq_list.specs.Listing.{IsFresh}
use Rattle.csq_list.proofs.vec_list.VecList.large_with_file_limits.Goals as goal

pub with_pool-requires-clause-fresh : goal.with_pool-requires-clause-fresh
with_pool-requires-clause-fresh g c = subst IsFresh (sym c.in_ok-pool.ensures.made) refl
