use Rattle.std.proofs.Common.{subst}
use Rattle.csq_ledger.specs.Moves.{Closes}
use Rattle.csq_ledger.specs.Singles.{Single}
use Rattle.csq_ledger.proofs.Inserting.{close_single, close_moves}
use Rattle.csq_ledger.proofs.single.SinglePassQueue.close_file.Goals as goal

pub invariant_of-self : goal.invariant_of-self
invariant_of-self c = close_single c.self.inside.queue c.self.inside.pass _ _ c.self.invariant _ _ c.close_file.ensures.call

pub returns : goal.returns
returns c = subst (λ (s : Single). Closes c.args.file c.close_file.result s (record { queue = c.close_file.new.self; pass = c.close_file.new.by })) c.self.view_is
    (close_moves c.self.inside.queue c.self.inside.pass _ _ c.self.invariant _ _ c.close_file.ensures.call)
