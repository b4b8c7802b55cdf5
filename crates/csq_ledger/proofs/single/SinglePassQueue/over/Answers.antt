use Rattle.std.proofs.Common.{sym, subst}
use Rattle.csq_checked.specs.Passes.{CheckedPassState}
use Rattle.csq_ledger.specs.Fresh.{IsFreshSingle}
use Rattle.csq_ledger.specs.Singles.{IsSingle}
use Rattle.csq_ledger.proofs.Newness.{new_single, new_fresh}
use Rattle.csq_ledger.proofs.single.SinglePassQueue.over.Goals as goal

pub invariant_of-result : goal.invariant_of-result
invariant_of-result c = subst (λ (p : CheckedPassState). IsSingle c.take_pass.new.self p) (sym c.into_inner.ensures)
    (new_single c.args.size c.args.queue c.requires.new c.take_pass.new.self c.in-Ok.pass.value c.in-Ok.ensures.pass.0 c.in-Ok.ensures.queue c.in-Ok.ensures.pass.1)

pub returns-in-Ok : goal.returns-in-Ok
returns-in-Ok c = record {
  made = subst (λ (p : CheckedPassState). IsFreshSingle c.args.queue.queue.limits (record { queue = c.take_pass.new.self; pass = p })) (sym c.into_inner.ensures)
      (new_fresh c.args.size c.args.queue c.requires.new c.take_pass.new.self c.in-Ok.pass.value c.in-Ok.ensures.pass.0 c.in-Ok.ensures.queue c.in-Ok.ensures.pass.1);
  memory = tt;
}
