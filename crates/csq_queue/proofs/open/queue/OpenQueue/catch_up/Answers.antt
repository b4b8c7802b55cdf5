use Rattle.irp_core.specs.declared.inside.Inside.TheVariants as inner
use Rattle.csq_words.specs.Records.{entered}
use Rattle.csq_words.specs.Traces.{entries_in, IsTrace}
use Rattle.csq_words.proofs.Keeping.{same_history}
use Rattle.csq_queue.proofs.Imports.{QueueSeatState, SomeRunAgrees, steps_in, IsExtendedBy, Size, own, QueueRecord, caught_up, IsHistoryOf, joined_record, pass_record, OpenState, OpenPassState, SeesRun}
use Rattle.std.proofs.Common.{◌≡◌, ap, sym, subst, ◌∙◌}
use Rattle.csq_queue.proofs.Meeting.{caught_up_sees}
use Rattle.csq_queue.proofs.open.queue.OpenQueue.catch_up.Goals as goal

pub returns-clause-sees : goal.returns-clause-sees
returns-clause-sees g c =
    let size = c.args.words.now.size in
    let q = c.self.inside.seat.queue in
    let r = pass_record c.pass.inside.seat in
    let steps : r.steps ≡ own r.pass (steps_in r.trace) = subst (λ (z : OpenPassState). z.pass.steps ≡ own z.pass.pass (steps_in z.pass.trace)) (sym c.pass.view_is) c.requires.steps in
    let since : IsExtendedBy r.trace q.trace = subst (λ (z : OpenPassState × OpenState). IsExtendedBy z.0.pass.trace z.1.queue.trace) (λ k. (sym c.pass.view_is k, sym c.self.view_is k)) c.requires.since in
    let agrees : IsHistoryOf size (steps_in q.trace) q inner.Nothing = subst (λ (z : Size × QueueRecord). IsHistoryOf z.0 (steps_in z.1.trace) z.1 inner.Nothing) (λ k. (c.requires.queue.size k, sym (ap (λ (z : OpenState). z.queue) c.self.view_is) k)) c.requires.agrees in
    let new : pass_record c.leave.new.pass ≡ caught_up q r = ap pass_record c.leave.ensures.pass ∙ (λ k. caught_up (c.enter.ensures.joined k).queue (joined_record (c.enter.ensures.joined k))) in
    let traced = subst (λ (z : OpenState). IsTrace z.queue.first z.queue.trace × (entries_in z.queue.trace ≡ z.queue.history)) (sym c.self.view_is) c.requires.traced in
    let agreed : SomeRunAgrees size (entered q) r = subst (λ (z : QueueSeatState). SomeRunAgrees size z.queue r) c.enter.ensures.joined c.enter.ensures.agreed in
    let sees = caught_up_sees size (entered q) r c.pass.invariant.0.outside steps since traced.0 traced.1 (same_history agrees) agreed in
    subst (λ (z : Size). SeesRun z (pass_record c.leave.new.pass)) (sym c.requires.queue.size) (subst (SeesRun size) (sym new) sees)
