use Rattle.std.proofs.Common.{◌≡◌, Ok, Err, replicate, ap, ◌∙◌, subst}
use Rattle.std.specs.Prelude.{IfOk}
use Rattle.irp_core.specs.Runs.{IsInLargeLimits}
use Rattle.irp_core.specs.declared.refusals.SizeRefused.TheVariants.{BadSize}
use Rattle.csq_list.specs.Listing.{IsLargeListSize}
use Rattle.csq_words.specs.Queue.{Limits}
use Rattle.csq_checked.specs.Passes.{CheckedState}
use Rattle.csq_checked.specs.Sizes.{limits_given, new_checked, size_in}
use Rattle.csq_checked.specs.declared.size.QueueSize.{QueueSize}
use Rattle.csq_ledger.specs.Fresh.{IsFreshLedger, with_one_pass}
use Rattle.csq_ledger.proofs.Newness.{new_of_one, table_size}
use Rattle.csq_ledger.proofs.ledger.Ledger.new.Goals as goal

pub over-requires : goal.over-requires
over-requires c = record { new = new_of_one c.args.size (replicate c.args.size.files c.args.size.irps) c.in-Ok.queue (subst (λ (g : QueueSize). c.in-Ok.queue ≡ new_checked g (limits_given g (replicate g.files g.irps)) c.in-Ok.queue.queue.table) c.one_pass.ensures c.in-Ok.ensures.made) }

pub returns-in-Ok : goal.returns-in-Ok
returns-in-Ok c = record {
  made =
      let limits : c.in-Ok.queue.queue.limits ≡ limits_given (with_one_pass c.args.size) (replicate c.args.size.files c.args.size.irps) = ap (λ (q : CheckedState). q.queue.limits) c.in-Ok.ensures.made ∙ ap (λ (g : QueueSize). limits_given g (replicate g.files g.irps)) c.one_pass.ensures in
      subst (λ (l : Limits). IfOk c.over.result (IsFreshLedger c.args.size l)) limits c.over.ensures.made;
  bad_size = (
    (λ bad good. c.over.ensures.bad_size bad (table_size c.args.size.irps c.args.size.files c.args.size.limit good.1)),
    (λ no.
        let refused = subst (λ (g : QueueSize). ¬ (IsInLargeLimits (size_in g) × IsLargeListSize g.irps g.files g.limit) → Ok c.in-Ok.queue ≡ Err BadSize) c.one_pass.ensures c.in-Ok.ensures.bad_size.1 no in
        absurd (cc)),
  );
}
