use Rattle.std.proofs.Common.{rules, ◌<◌, length, sym, ◌∙◌}
use Rattle.csq_list.specs.VecParts.{listing_of}
use Rattle.csq_list.proofs.Causes.{cause-put_back}
use Rattle.csq_list.proofs.pool.Pool.may_put_back.Goals as goal

pub returns-clause-cause : goal.returns-clause-cause
returns-clause-cause g c = λ entries counted is irp known.
    let p = c.args.self.now in
    let file : c.args.file.0 < length p.closed.items = search rules in
    c.may_list.ensures.cause entries counted is irp ∙ sym (cause-put_back (listing_of entries p.used.items p.closed.items p.limit p.counts.limits.items) irp c.args.file known file)
