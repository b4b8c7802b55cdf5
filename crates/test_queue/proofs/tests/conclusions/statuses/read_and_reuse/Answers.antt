use Rattle.std.proofs.Common.{Result, Option, refl, sym, subst}
use Rattle.std.specs.Prelude.{IsOk}
use Rattle.csq_queue.specs.declared.refusals.UnknownIrp.{UnknownIrp}
use Rattle.irp_core.specs.declared.ids.Life.{Life}
use Rattle.irp_core.specs.declared.status.NtStatus.{NtStatus}
use Rattle.test_queue.proofs.Rereading.{read_later}
use Rattle.test_queue.proofs.tests.conclusions.statuses.read_and_reuse.Goals as goal

pub returns : goal.returns
returns g c = record {
  later = λ life status is.
      let known = c.status-read.ensures.call.known.0 (subst (λ (r : Result (Life × Option NtStatus) UnknownIrp). IsOk r) (sym is) refl) in
      let call = c.reuse.ensures.call.1.call known in
      read_later g.N.QueueName.limits c.args.irp c.args.pass.now c.status-read.new.pass c.reuse.new.pass c.status-read.result c.reuse.result life status
      is c.status-read.ensures.call.found call.follows call.sees (c.reuse.ensures.call.1.refused known);
}
