use Rattle.std.proofs.Common.{sym, subst}
use Rattle.csq_ledger.specs.Ledgers.{IsLinked}
use Rattle.csq_ledger.proofs.Linking.{close_linked}
use Rattle.csq_ledger.proofs.ledger.Ledger.close_file.Goals as goal

pub invariant_of-self : goal.invariant_of-self
invariant_of-self c = subst (IsLinked c.close_file.new.self) (sym c.close_file-in-Ok.ensures) (close_linked c.self.inside.queue c.self.inside.table c.self.invariant c.args.file c.close_file.new.self c.in-Ok.ensures)
