use Rattle.std.proofs.Common.{sym, subst, arith}
use Rattle.csq_device.proofs.Imports.{queue_size, AreCallsBy, Role}
use Rattle.csq_device.proofs.Planned.{submitter_calls, canceller_calls, busy_worker_calls}
use Rattle.csq_device.proofs.threads.play.Goals as goal

pub returns-in-Submitter-clause-calls : goal.returns-in-Submitter-clause-calls
returns-in-Submitter-clause-calls g c =
    let none = c.none-none.result in
    let zero = c.none-none.ensures in
    subst (λ (role : Role). AreCallsBy c.args.plan role (record { inserts = c.submit-raced.result.0; raced = c.submit-raced.result.1; removals = none.removals; cancels = none.cancels; put_backs = none.put_backs })) (sym c.in-Submitter.is) record {
      inserts = submitter_calls c.args.plan c.in-Submitter.first c.submit-raced.result.0.made c.args.pass.now c.submit-raced.new.pass c.submit-raced.ensures.calls;
      removals = zero.removals;
      cancels = zero.cancels;
      put_backs = let none_made = zero.put_backs in omega arith;
      raced = c.submit-raced.ensures.raced;
    }

pub returns-in-Canceller-clause-calls : goal.returns-in-Canceller-clause-calls
returns-in-Canceller-clause-calls g c =
    let none = c.none-none.result in
    let zero = c.none-none.ensures in
    subst (λ (role : Role). AreCallsBy c.args.plan role (record { inserts = none.inserts; raced = none.raced; removals = none.removals; cancels = c.cancel.result; put_backs = none.put_backs })) (sym c.in-Canceller.is) record {
      inserts = zero.inserts;
      removals = zero.removals;
      cancels = canceller_calls (queue_size g.N.QueueName.limits) c.args.plan c.in-Canceller.first c.cancel.result.made c.args.pass.now c.cancel.new.pass c.cancel.ensures.cancels;
      put_backs = let none_made = zero.put_backs in omega arith;
      raced = let none_raced = zero.raced in omega arith;
    }

pub returns-in-BusyWorker-clause-calls : goal.returns-in-BusyWorker-clause-calls
returns-in-BusyWorker-clause-calls g c =
    let none = c.none-none.result in
    let zero = c.none-none.ensures in
    subst (λ (role : Role). AreCallsBy c.args.plan role (record { inserts = none.inserts; raced = none.raced; removals = none.removals; cancels = none.cancels; put_backs = c.put_back.result })) (sym c.in-BusyWorker.is) record {
      inserts = zero.inserts;
      removals = zero.removals;
      cancels = zero.cancels;
      put_backs = busy_worker_calls c.args.plan.turns c.put_back.result.made c.args.pass.now c.put_back.new.pass c.put_back.ensures.turns;
      raced = let none_raced = zero.raced in omega arith;
    }
