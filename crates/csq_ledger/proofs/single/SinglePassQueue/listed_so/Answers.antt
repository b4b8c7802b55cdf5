use Rattle.std.proofs.Common.{subst}
use Rattle.irp_core.specs.declared.ids.IrpId.{IrpId}
use Rattle.csq_ledger.specs.Singles.{IsListedSo, Single}
use Rattle.csq_ledger.proofs.Files.{file_listed_is}
use Rattle.csq_ledger.proofs.single.SinglePassQueue.listed_so.Goals as goal

pub returns : goal.returns
returns c = subst (λ (s : Single). (n : IrpId) → IsListedSo s n) c.self.view_is (file_listed_is c.self.inside.queue c.self.inside.pass c.self.invariant)
