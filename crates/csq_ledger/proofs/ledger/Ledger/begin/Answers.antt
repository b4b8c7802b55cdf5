use Rattle.std.proofs.Common.{rules, ◌≡◌, Some, None, Ok, Option, refl, sym, ap, ◌∙◌, subst}
use Rattle.irp_core.specs.declared.ids.IrpId.{IrpId}
use Rattle.request_table.specs.Requests.{begun, with_due}
use Rattle.csq_ledger.specs.Calls.{Begins}
use Rattle.csq_ledger.specs.Ledgers.{IsLinked, LedgerState}
use Rattle.irp_core.specs.declared.ids.IrpLife.{IrpLife}
use Rattle.request_table.specs.Refusals.{refusal_to_begin}
use Rattle.csq_ledger.specs.Moves.{Lists}
use Rattle.csq_ledger.specs.Singles.{present}
use Rattle.csq_ledger.proofs.Beginning.{begin_linked, by_list}
use Rattle.csq_ledger.proofs.ledger.Ledger.begin.Goals as goal

same_first : (a b : IrpId) (o : Option IrpId) → Some a ≡ o → o ≡ Some b → b ≡ a
same_first a b o e f = cc

pub invariant_of-self : goal.invariant_of-self
invariant_of-self c =
    let irp = c.in-Some-next_free.irp in
    let same = same_first irp c.list.result _ c.in-Some-next_free.ensures.first c.list.ensures.first in
    let table : c.list.new.self ≡ with_due irp c.args.due (begun irp c.args.file c.self.inside.table) = subst (λ (n : IrpId). c.list.new.self ≡ with_due n c.args.due (begun n c.args.file c.self.inside.table)) same c.list.ensures.listed in
    subst (IsLinked c.insert.new.self) (sym table) (begin_linked c.self.inside.queue c.self.inside.table c.self.invariant irp c.in-Some-next_free.ensures.known c.in-Some-next_free.ensures.free c.args.file c.args.place c.args.due c.insert.new.self c.in-Ok.ensures.listed)

pub returns-in-Ok : goal.returns-in-Ok
returns-in-Ok c =
    let irp = c.in-Some-next_free.irp in
    let same = same_first irp c.list.result _ c.in-Some-next_free.ensures.first c.list.ensures.first in
    let none : refusal_to_begin c.self.inside.table c.args.file ≡ None = search rules in
    let at : irp ≡ c.in-Ok.name.irp = sym (ap (λ (i : IrpLife). i.irp) c.in-Ok.ensures.name) in
    let full = sym (by_list c.self.inside.queue c.self.inside.table c.self.invariant irp c.in-Some-next_free.ensures.known c.in-Some-next_free.ensures.free c.args.file none) ∙ c.in-Ok.ensures.listed.accepted in
    let now : LedgerState = record { single = c.insert.new.self; table = c.list.new.self } in
    let was : LedgerState = record { single = c.self.inside.queue; table = c.self.inside.table } in
    let begins : Begins c.args.file c.args.place c.args.due (Ok c.in-Ok.name) was now = record {
      cause = rw (none, full) refl;
      number = sym c.in-Some-next_free.ensures.first ∙ ap (λ (n : IrpId). Some n) at;
      name = c.in-Ok.ensures.name ∙ ap (present c.self.inside.queue) at;
      listed = subst (λ (n : IrpId). Lists n c.args.file c.args.place c.self.inside.queue c.insert.new.self) at c.in-Ok.ensures.listed;
      table = subst (λ (n : IrpId). c.list.new.self ≡ with_due n c.args.due (begun n c.args.file c.self.inside.table)) (same ∙ at) c.list.ensures.listed;
      kept = tt;
    } in
    subst (λ (s : LedgerState). Begins c.args.file c.args.place c.args.due (Ok c.in-Ok.name) s now) c.self.view_is begins
