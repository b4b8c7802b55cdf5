use Rattle.std.proofs.Common.{subst}
use Rattle.request_table.specs.Times.{IsFirstDue}
use Rattle.request_table.specs.Requests.{Requests}
use Rattle.request_table.proofs.table.RequestTable.next_due.Goals as goal

pub returns-clause-some : goal.returns-clause-some
returns-clause-some g c = (
  c.in_ok-first.first.irp,
  subst (λ (r : Requests). IsFirstDue r.dues c.in_ok-first.first.irp c.in_ok-first.first.time) c.self.view_is c.in_ok-first.ensures.first,
)
