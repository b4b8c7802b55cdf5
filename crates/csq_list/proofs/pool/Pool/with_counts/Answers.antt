use Rattle.std.proofs.Common.{◌∙◌, []}
use Rattle.csq_list.specs.VecParts.{listing_of}
use Rattle.csq_list.proofs.VecKeeping.{listing_of-new}
use Rattle.csq_list.proofs.pool.Pool.with_counts.Goals as goal

pub returns-clause-made : goal.returns-clause-made
returns-clause-made g c =
    (λ k. listing_of [] (c.in_ok-used.ensures.items_if_clones_equal (λ y h. h) k) (c.in_ok-closed.ensures.items_if_clones_equal (λ y h. h) k) c.args.limit c.args.counts.limits.items)
    ∙ listing_of-new c.args.irps c.args.files c.args.limit c.args.counts.limits.items
