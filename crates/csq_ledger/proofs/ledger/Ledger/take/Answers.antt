use Rattle.std.proofs.Common.{◌≡◌, Ok, refl, sym, ap, ◌∙◌, subst}
use Rattle.request_table.specs.declared.stage.Stage.{Stage}
use Rattle.request_table.specs.Requests.{with_stage}
use Rattle.request_table.specs.Stages.{as_taken}
use Rattle.csq_ledger.specs.Calls.{TakesRequest, taken_by}
use Rattle.csq_ledger.specs.Ledgers.{IsLinked, LedgerState}
use Rattle.csq_ledger.proofs.Linking.{still_linked, take_linked}
use Rattle.csq_ledger.proofs.ledger.Ledger.take.Goals as goal

pub invariant_of-self : goal.invariant_of-self
invariant_of-self c = still_linked c.self.inside.queue c.self.inside.table c.self.invariant c.remove_first.new.queue c.in_err-request.ensures.kept c.self.inside.table refl refl

pub invariant_of-self-2 : goal.invariant_of-self-2
invariant_of-self-2 c =
    let r = c.in_ok-request.request in
    let table : c.take.new.self ≡ taken_by r c.self.inside.table = c.take.ensures ∙ ap (λ (x : Stage). with_stage r.name.irp (as_taken x) c.self.inside.table) c.in_ok-request.ensures.stage in
    subst (IsLinked c.remove_first.new.queue) (sym table) (take_linked c.self.inside.queue c.self.inside.table c.self.invariant r.name c.remove_first.new.queue c.in_ok-request.ensures.taken r.file c.in_ok-request.ensures.stage)

pub returns : goal.returns
returns c =
    let r = c.in_ok-request.request in
    let table : c.take.new.self ≡ taken_by r c.self.inside.table = c.take.ensures ∙ ap (λ (x : Stage). with_stage r.name.irp (as_taken x) c.self.inside.table) c.in_ok-request.ensures.stage in
    let now : LedgerState = record { single = c.remove_first.new.queue; table = c.take.new.self } in
    subst (λ (s : LedgerState). TakesRequest c.args.peek taken_by (Ok r) s now) c.self.view_is (record { removed = c.in_ok-request.ensures; table = table; kept = tt })
