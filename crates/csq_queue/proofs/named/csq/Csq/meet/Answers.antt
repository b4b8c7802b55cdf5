use Rattle.irp_core.specs.declared.inside.Inside.TheVariants as inner
use Rattle.csq_queue.proofs.Imports.{steps_in, IsExtendedBy, IsHistoryOf, extended_on, queue_size, OpenState}
use Rattle.std.proofs.Common.{◌≡◌, sym, subst, ◌∙◌, rules}
use Rattle.csq_queue.proofs.named.csq.Csq.meet.Goals as goal

pub catch_up-requires-clause-agrees : goal.catch_up-requires-clause-agrees
catch_up-requires-clause-agrees g c =
    let open' : c.behind-locked-3.inside.open ≡ c.show-2.new.self = search rules in
    let limits : c.behind-locked-2.inside.open.limits ≡ c.behind-locked-3.inside.open.limits = search rules in
    subst (λ (z : OpenState). IsHistoryOf (queue_size c.behind-locked-3.inside.open.limits) (steps_in z.queue.trace) z.queue inner.Nothing) (sym open')
    (subst (λ l. IsHistoryOf (queue_size l) (steps_in c.show-2.new.self.queue.trace) c.show-2.new.self.queue inner.Nothing) limits c.show-2.ensures.agrees)

pub returns-clause-one_follows : goal.returns-clause-one_follows
returns-clause-one_follows g c =
    let first : IsExtendedBy c.args.one.now.trace c.behind-locked-2.inside.open.queue.trace = search rules in
    let then : IsExtendedBy c.behind-locked-2.inside.open.queue.trace c.behind-locked-3.inside.open.queue.trace = search rules in
    let last : c.catch_up.new.pass.pass.trace ≡ c.behind-locked-3.inside.open.queue.trace = search rules in
    let whole = extended_on _ _ _ first then in (whole.0, last ∙ whole.1)
