use Rattle.std.proofs.Common.{refl, length, sym, ap, ◌∙◌, subst, arith}
use Rattle.csq_list.proofs.Imports.{length-replicate, IsSound, record_at, unlinked}
use Rattle.csq_list.proofs.Keeping.{sound-fresh}
use Rattle.csq_list.proofs.ChainParts.{kept-new}
use Rattle.csq_list.proofs.chain_list.ChainList.with_pool.Goals as goal

pub invariant_of-result : goal.invariant_of-result
invariant_of-result g c =
    let heads = c.in_ok-file_ends.ensures.items_if_clones_equal (λ y h. h) in
    record {
      sound = subst IsSound (sym c.requires.fresh) (sound-fresh (length c.args.pool.used.items) (length c.args.pool.closed.items) c.args.pool.limit c.args.pool.counts.limits.items);
      kept = kept-new (record_at c.in_ok-records.records.slab) c.in_ok-file_ends.file_ends.items c.files.result c.in_ok-records.ensures.unlisted heads;
      there = λ i below. c.in_ok-records.ensures.there i (omega (arith, c.irps-irps.ensures, below));
      counted = refl;
      filed = c.requires.none;
      files_with_ends = ap length heads ∙ length-replicate c.files.result unlinked ∙ c.files.ensures;
    }

pub returns : goal.returns
returns g c = refl
