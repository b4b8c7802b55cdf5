use Rattle.std.proofs.Common.{List, ◌≡◌, ◌<◌, true, sym, ap, subst, ◌∙◌}
use Rattle.std.specs.Prelude.{IfErr}
use Rattle.irp_core.specs.declared.ids.IrpId.{IrpId}
use Rattle.csq_words.proofs.Traced.{steps_extended}
use Rattle.csq_words.specs.declared.views.Tick.{Tick}
use Rattle.csq_words.specs.Traces.{steps_in}
use Rattle.csq_words.specs.Queue.{present_in}
use Rattle.csq_words.specs.History.{end_of}
use Rattle.csq_words.specs.Rule.{is_done}
use Rattle.csq_words.proofs.Facts.{done_stays}
use Rattle.csq_queue.specs.Named.{queue_size}
use Rattle.csq_queue.specs.Refusals.{IsReuseRefusal}
use Rattle.test_queue.proofs.Completing.{completed_now, reuse_later}
use Rattle.test_queue.proofs.tests.conclusions.statuses.complete_and_reuse.Goals as goal

pub returns : goal.returns
returns g c =
    let l = g.N.QueueName.limits in
    let i = c.args.token in
    let met = c.meet.ensures in
    let irp : c.irp-irp.result ≡ i.irp = c.irp-irp.ensures in
    let known : c.irp-irp.result.0 < l.irps = subst (λ (n : IrpId). n.0 < l.irps) (sym irp) c.requires.token.known in
    let call = c.reuse.ensures.call.1.call known in
    let done : is_done (steps_in c.meet.new.other.trace) i ≡ true = ap (λ (trace : List Tick). is_done (steps_in trace) i) (sym met.run) ∙ done_stays i (steps_in c.complete.new.pass.trace) (steps_in c.meet.new.one.trace) (steps_extended met.one_follows) (completed_now (queue_size l) i c.args.one.now c.complete.new.pass c.complete.ensures.call.unset) in
    let refused = subst (λ (n : IrpId). IfErr c.reuse.result (IsReuseRefusal (present_in (end_of l.first c.reuse.new.pass.seen) n) c.meet.new.other c.reuse.new.pass)) irp (c.reuse.ensures.call.1.refused known) in
    record { later = reuse_later (queue_size l) i c.meet.new.other c.reuse.new.pass c.reuse.result done call.follows call.sees refused }
