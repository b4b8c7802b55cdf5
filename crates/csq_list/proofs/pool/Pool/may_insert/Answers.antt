use Rattle.std.proofs.Common.{rules, ◌≡◌, ◌<◌, length, false, get_or, sym, ◌∙◌}
use Rattle.csq_list.specs.VecParts.{listing_of}
use Rattle.csq_list.proofs.Causes.{cause-known}
use Rattle.csq_list.proofs.pool.Pool.may_insert.Goals as goal

pub returns-clause-cause : goal.returns-clause-cause
returns-clause-cause g c = λ entries counted is.
    let p = c.args.self.now in
    let irp : c.args.irp.0 < length p.used.items = search rules in
    let file : c.args.file.0 < length p.closed.items = search rules in
    let unused : get_or p.used.items c.args.irp.0 false ≡ false = search rules in
    c.may_list.ensures.cause entries counted is c.args.irp ∙ sym (cause-known (listing_of entries p.used.items p.closed.items p.limit p.counts.limits.items) c.args.irp c.args.file irp file unused)
