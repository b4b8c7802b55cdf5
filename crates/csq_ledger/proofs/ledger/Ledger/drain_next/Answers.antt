use Rattle.std.proofs.Common.{◌≡◌, Ok, None, refl, sym, ap, ◌∙◌, subst}
use Rattle.request_table.specs.declared.stage.Stage.{Stage}
use Rattle.request_table.specs.Requests.{with_due, with_stage}
use Rattle.request_table.specs.Stages.{as_ending}
use Rattle.csq_ledger.specs.Calls.{TakesRequest, drained_by}
use Rattle.csq_ledger.specs.Ledgers.{IsLinked, LedgerState}
use Rattle.csq_ledger.proofs.Linking.{still_linked, drain_linked}
use Rattle.csq_ledger.proofs.ledger.Ledger.drain_next.Goals as goal

pub invariant_of-self : goal.invariant_of-self
invariant_of-self c = still_linked c.self.inside.queue c.self.inside.table c.self.invariant c.remove_first.new.queue c.in_err-request.ensures.kept c.self.inside.table refl refl

pub invariant_of-self-2 : goal.invariant_of-self-2
invariant_of-self-2 c =
    let r = c.in_ok-request.request in
    let table : c.begin_end.new.self ≡ drained_by c.args.why r c.self.inside.table = c.begin_end.ensures ∙ ap (λ (x : Stage). with_due r.name.irp None (with_stage r.name.irp (as_ending c.args.why x) c.self.inside.table)) c.in_ok-request.ensures.stage in
    subst (IsLinked c.remove_first.new.queue) (sym table) (drain_linked c.self.inside.queue c.self.inside.table c.self.invariant r.name c.remove_first.new.queue c.in_ok-request.ensures.taken r.file c.in_ok-request.ensures.stage c.args.why)

pub returns : goal.returns
returns c =
    let r = c.in_ok-request.request in
    let table : c.begin_end.new.self ≡ drained_by c.args.why r c.self.inside.table = c.begin_end.ensures ∙ ap (λ (x : Stage). with_due r.name.irp None (with_stage r.name.irp (as_ending c.args.why x) c.self.inside.table)) c.in_ok-request.ensures.stage in
    let now : LedgerState = record { single = c.remove_first.new.queue; table = c.begin_end.new.self } in
    subst (λ (s : LedgerState). TakesRequest c.args.peek (drained_by c.args.why) (Ok r) s now) c.self.view_is (record { removed = c.in_ok-request.ensures; table = table; kept = tt })
