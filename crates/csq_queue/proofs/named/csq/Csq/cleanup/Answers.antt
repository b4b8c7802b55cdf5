use Rattle.std.proofs.Common.{subst, arith}
use Rattle.irp_core.specs.declared.status.NtStatus.{NtStatus}
use Rattle.csq_queue.proofs.Imports.{queue_size}
use Rattle.csq_queue.specs.Calls.{CompletesOne}
use Rattle.csq_queue.proofs.Cleaning.{cleaning_start, cleans_more, has_room, cleans_up, sees_calls, completes_all, goes_further, none_is_left}
use Rattle.csq_queue.proofs.named.csq.Csq.cleanup.Goals as goal

pub cleanup-init : goal.cleanup-init
cleanup-init g c =
    let call = c.in_ok-close_file.ensures.call in
    cleaning_start g.N.QueueName.limits c.args.file call.0 c.args.pass.now c.close_file.new.pass call.1

pub prove-unreachable-requires : goal.prove-unreachable-requires
prove-unreachable-requires g c =
    let call = c.in-Some.ensures.call in
    let done = subst (λ (z : NtStatus). CompletesOne c.in-Some.token z (queue_size g.N.QueueName.limits) c.remove_next.new.pass c.complete.new.pass) c.cancelled.ensures c.complete.ensures.call in
    let room = has_room g.N.QueueName.limits c.args.file c.args.pass.now c.cleanup.pass c.cleanup.completed c.cleanup.invariant call.0 c.in-Some.token c.remove_next.new.pass c.complete.new.pass call.1 done in
    let irps = c.irps-irps.ensures in
    let over = c.if-prove.true in
    omega arith

pub cleanup-smaller : goal.cleanup-smaller
cleanup-smaller g c =
    let call = c.in-Some.ensures.call in
    let done = subst (λ (z : NtStatus). CompletesOne c.in-Some.token z (queue_size g.N.QueueName.limits) c.remove_next.new.pass c.complete.new.pass) c.cancelled.ensures c.complete.ensures.call in
    let room = has_room g.N.QueueName.limits c.args.file c.args.pass.now c.cleanup.pass c.cleanup.completed c.cleanup.invariant call.0 c.in-Some.token c.remove_next.new.pass c.complete.new.pass call.1 done in
    omega arith

pub cleanup-preserved : goal.cleanup-preserved
cleanup-preserved g c =
    let call = c.in-Some.ensures.call in
    let done = subst (λ (z : NtStatus). CompletesOne c.in-Some.token z (queue_size g.N.QueueName.limits) c.remove_next.new.pass c.complete.new.pass) c.cancelled.ensures c.complete.ensures.call in
    cleans_more g.N.QueueName.limits c.args.file c.args.pass.now c.cleanup.pass c.cleanup.completed c.cleanup.invariant call.0 c.in-Some.token c.remove_next.new.pass c.complete.new.pass call.1 done

pub returns-clause-cleaned : goal.returns-clause-cleaned
returns-clause-cleaned g c =
    let call = c.in_default.ensures.call in (
      c.cleanup.invariant.taken,
      c.cleanup.invariant.count_is,
      sees_calls g.N.QueueName.limits c.args.file c.args.pass.now c.cleanup.pass c.cleanup.completed c.cleanup.invariant call.0 c.remove_next.new.pass call.1,
      completes_all g.N.QueueName.limits c.args.file c.args.pass.now c.cleanup.pass c.cleanup.completed c.cleanup.invariant call.0 c.remove_next.new.pass call.1,
      cleans_up g.N.QueueName.limits c.args.file c.args.pass.now c.cleanup.pass c.cleanup.completed c.cleanup.invariant call.0 c.remove_next.new.pass call.1,
    )

pub returns-clause-left : goal.returns-clause-left
returns-clause-left g c = let call = c.in_default.ensures.call in none_is_left g.N.QueueName.limits c.args.file c.args.pass.now c.cleanup.pass c.cleanup.completed c.cleanup.invariant call.0 c.remove_next.new.pass call.1

pub returns-clause-follows : goal.returns-clause-follows
returns-clause-follows g c = let call = c.in_default.ensures.call in goes_further g.N.QueueName.limits c.args.file c.args.pass.now c.cleanup.pass c.cleanup.completed c.cleanup.invariant call.0 c.remove_next.new.pass call.1
