use Rattle.std.proofs.Common.{sym, subst}
use Rattle.csq_ledger.specs.Ledgers.{IsLinked}
use Rattle.csq_ledger.proofs.Newness.{fresh_linked}
use Rattle.csq_ledger.proofs.ledger.Ledger.over.Goals as goal

pub invariant_of-result : goal.invariant_of-result
invariant_of-result c = subst (IsLinked c.in_ok-queue.queue) (sym c.in_ok-table.ensures.made) (fresh_linked c.args.size c.args.queue c.requires.new c.in_ok-queue.queue c.in_ok-queue.ensures.made)
