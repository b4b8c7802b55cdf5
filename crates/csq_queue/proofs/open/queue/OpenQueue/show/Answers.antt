use Rattle.irp_core.specs.declared.inside.Inside.TheVariants as inner
use Rattle.std.proofs.Common.{◌≡◌, ap, sym, subst, ◌∙◌}
use Rattle.csq_queue.proofs.Imports.{steps_in, Size, QueueRecord, inside_of, with_trace, IsHistoryOf, QueueSeatState, joined_record, pass_record, Nothing, SeesRun}
use Rattle.csq_words.specs.Traces.{entries_in, IsTrace}
use Rattle.csq_queue.proofs.Meeting.{observed_history}
use Rattle.csq_queue.proofs.Presence.{sees_run}
use Rattle.csq_queue.proofs.open.queue.OpenQueue.show.Goals as goal

pub returns-clause-sees : goal.returns-clause-sees
returns-clause-sees g c =
    let size = c.args.words.now.size in
    let outside : inside_of (joined_record c.observe.new.self).steps ≡ Nothing = ap (λ (z : QueueSeatState). inside_of (joined_record z).steps) (c.observe.ensures.step ∙ (λ k. record (c.enter.ensures.joined k) { queue = with_trace c.observe.new.self.queue.trace (c.enter.ensures.joined k).queue })) ∙ c.pass.invariant.0.outside in
    let sees : SeesRun size (pass_record c.leave.new.pass) = subst (SeesRun size) (sym (ap pass_record c.leave.ensures.pass)) (sees_run size _ _ _ c.leave.ensures.run.agreed outside) in
    subst (λ (z : Size). SeesRun z (pass_record c.leave.new.pass)) (sym c.requires.queue.size) sees

pub returns-clause-agrees : goal.returns-clause-agrees
returns-clause-agrees g c =
    let size = c.args.words.now.size in
    let outside : inside_of (joined_record c.observe.new.self).steps ≡ Nothing = ap (λ (z : QueueSeatState). inside_of (joined_record z).steps) (c.observe.ensures.step ∙ (λ k. record (c.enter.ensures.joined k) { queue = with_trace c.observe.new.self.queue.trace (c.enter.ensures.joined k).queue })) ∙ c.pass.invariant.0.outside in
    let h = observed_history size _ _ _ outside c.leave.ensures.run.agreed in
    subst (λ (z : Size × QueueRecord). IsHistoryOf z.0 (steps_in z.1.trace) z.1 inner.Nothing) (λ k. (sym c.requires.queue.size k, sym (ap (λ (z : QueueSeatState). z.queue) c.leave.ensures.queue) k)) h

pub returns-clause-traced : goal.returns-clause-traced
returns-clause-traced g c =
    let h = c.leave.ensures.run.agreed in
    subst (λ (q : QueueRecord). IsTrace q.first q.trace × (entries_in q.trace ≡ q.history)) (sym (ap (λ (z : QueueSeatState). z.queue) c.leave.ensures.queue)) (h.is_trace, h.entries_are)
