use Rattle.std.proofs.Common.{subst}
use Rattle.csq_ledger.specs.Moves.{TakesFirst}
use Rattle.csq_ledger.specs.Singles.{Single}
use Rattle.csq_ledger.proofs.Taking.{take_single, take_moves}
use Rattle.csq_ledger.proofs.single.SinglePassQueue.take.Goals as goal

pub invariant_of-self : goal.invariant_of-self
invariant_of-self c = take_single c.self.inside.queue c.self.inside.pass _ _ c.self.invariant _ _ c.remove_next.ensures.call

pub returns : goal.returns
returns c = subst (λ (s : Single). TakesFirst c.args.peek c.remove_next.result s (record { queue = c.remove_next.new.self; pass = c.remove_next.new.by })) c.self.view_is
    (take_moves c.self.inside.queue c.self.inside.pass _ _ c.self.invariant _ _ c.remove_next.ensures.call)
