use Rattle.csq_queue.proofs.Imports.{CANCELLED, IsExtendedBy, IrpLife, named, queue_size}
use Rattle.std.proofs.Common.{◌≡◌, Option, Some, Ok, subst, rules}
use Rattle.csq_queue.specs.Calls.{RunsRoutine, MarksCancel, CompletesOne}
use Rattle.csq_queue.proofs.Cancelling.{marked_follows, adds_before}
use Rattle.csq_queue.proofs.named.csq.Csq.cancel.Goals as goal

pub returns-in-Some-clause-call : goal.returns-in-Some-clause-call
returns-in-Some-clause-call g c = λ _.
    let l = g.N.QueueName.limits in
    let i = named c.args.irp c.args.life in
    let marked = c.in_ok-mark_cancel.ensures.call.step in
    let claim : c.in-Some.claim ≡ i = search rules in
    let follows : IsExtendedBy c.args.pass.now.trace c.mark_cancel.new.pass.trace = marked_follows (queue_size l) i marked.0 _ c.args.pass.now c.mark_cancel.new.pass marked.2 in
    let call = c.cancel_routine-token.ensures.call in
    let routine = subst (λ (z : IrpLife). RunsRoutine z l call.0 c.mark_cancel.new.pass c.cancel_routine-token.new.pass) claim call.1 in (
      call.0,
      c.cancel_routine-token.new.pass,
      adds_before l call.0 c.args.pass.now c.mark_cancel.new.pass c.cancel_routine-token.new.pass _ i marked.0 _ marked.1 follows routine.call,
      search rules,
      search rules,
    )

pub returns-in-Some-clause-calls : goal.returns-in-Some-clause-calls
returns-in-Some-clause-calls g c =
    let l = g.N.QueueName.limits in
    let i = named c.args.irp c.args.life in
    let claim : c.in-Some.claim ≡ i = search rules in
    let answer : c.in_ok-mark_cancel.field-0 ≡ Some i = search rules in
    let call = c.cancel_routine-token.ensures.call in
    let done : CompletesOne c.in-Some.claim CANCELLED (queue_size l) c.cancel_routine-token.new.pass c.complete_cancelled.new.pass = search rules in
    record {
      marked = c.mark_cancel.new.pass;
      marks = subst (λ (z : Option IrpLife). MarksCancel i.irp i.life (Ok z) (queue_size l) c.args.pass.now c.mark_cancel.new.pass) answer c.in_ok-mark_cancel.ensures.call;
      history = call.0;
      out = c.cancel_routine-token.new.pass;
      takes_out = subst (λ (z : IrpLife). RunsRoutine z l call.0 c.mark_cancel.new.pass c.cancel_routine-token.new.pass) claim call.1;
      completes = subst (λ (z : IrpLife). CompletesOne z CANCELLED (queue_size l) c.cancel_routine-token.new.pass c.complete_cancelled.new.pass) claim done;
    }
