use Rattle.std.proofs.Common.{◌∙◌, subst}
use Rattle.csq_ledger.specs.Ledgers.{ListAgrees}
use Rattle.csq_ledger.proofs.Linking.{stage_in_list}
use Rattle.csq_ledger.proofs.ledger.Ledger.linked.Goals as goal

pub returns-clause-list : goal.returns-clause-list
returns-clause-list c = subst ListAgrees c.self.view_is (λ n inside. c.listed_so.ensures n ∙ stage_in_list _ _ (c.self.invariant.spots n inside))
