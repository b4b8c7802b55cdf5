use Rattle.std.proofs.Common.{◌≡◌, true, Ok, Err, refl, sym, ap, ◌∙◌, subst}
use Rattle.request_table.specs.declared.stage.Stage.{Stage, TheVariants.{Taken, Listed}}
use Rattle.request_table.specs.Requests.{with_stage}
use Rattle.request_table.specs.Stages.{as_listed, is_taken}
use Rattle.csq_ledger.specs.Calls.{PutsBackRequest}
use Rattle.csq_ledger.specs.Ledgers.{IsLinked, LedgerState, knows, named_stage}
use Rattle.csq_ledger.proofs.Linking.{back_linked, found_linked, still_linked}
use Rattle.csq_ledger.specs.Moves.{FindsCancelled, Relists, Returns}
use Rattle.csq_ledger.specs.Refusals.{by_put_back}
use Rattle.csq_ledger.specs.declared.refusals.PutBackRefused.{PutBackRefused}
use Rattle.csq_ledger.specs.declared.refusals.PutBackRefused.TheVariants as back
use Rattle.csq_queue.specs.declared.tokens.InsertAnswer.{InsertAnswer}
use Rattle.irp_core.specs.declared.ids.IrpLife.{IrpLife}
use Rattle.csq_ledger.proofs.Naming.{accepted_back, may_refuse_it, never_cancelled, refused_back, in_table, named_at, is_known, spot_at, taken_there}
use Rattle.csq_ledger.proofs.ledger.Ledger.put_back.Goals as goal

pub put_back-requires : goal.put_back-requires
put_back-requires c =
    let was : LedgerState = record { single = c.self.inside.queue; table = c.self.inside.table } in
    let inside : knows was c.args.irp.irp ≡ true = sym (subst (λ (s : LedgerState). true ≡ knows s c.args.irp.irp) (sym c.self.view_is) c.if-not-knows.ensures.known) in
    let stage : Taken c.in-Taken.file c.in-Taken.named ≡ named_stage was c.args.irp = subst (λ (s : LedgerState). Taken c.in-Taken.file c.in-Taken.named ≡ named_stage s c.args.irp) (sym c.self.view_is) c.in-Taken.ensures in
    record {
      known = is_known was c.self.invariant c.args.irp inside _ stage taken_there;
      held = (spot_at was c.self.invariant c.args.irp inside _ stage taken_there).held;
    }

pub invariant_of-self : goal.invariant_of-self
invariant_of-self c =
    let was : LedgerState = record { single = c.self.inside.queue; table = c.self.inside.table } in
    let inside : knows was c.args.irp.irp ≡ true = sym (subst (λ (s : LedgerState). true ≡ knows s c.args.irp.irp) (sym c.self.view_is) c.if-not-knows.ensures.known) in
    let stage : Taken c.in-Taken.file c.in-Taken.named ≡ named_stage was c.args.irp = subst (λ (s : LedgerState). Taken c.in-Taken.file c.in-Taken.named ≡ named_stage s c.args.irp) (sym c.self.view_is) c.in-Taken.ensures in
    let known = in_table was c.self.invariant c.args.irp inside _ stage taken_there in
    let taken = (named_at was c.args.irp _ stage taken_there).1 in
    let table : c.list_again.new.self ≡ with_stage c.args.irp.irp (Listed c.in-Taken.file) c.self.inside.table = c.list_again.ensures ∙ ap (λ (x : Stage). with_stage c.args.irp.irp (as_listed x) c.self.inside.table) taken in
    let relists : Relists c.args.irp c.args.place c.self.inside.queue c.put_back.new.self = subst (λ (a : InsertAnswer IrpLife IrpLife). Returns c.args.irp c.args.place a c.self.inside.queue c.put_back.new.self) c.in-Ok-Pending.field-0-is c.in-Ok-Pending.ensures.returned in
    subst (IsLinked c.put_back.new.self) (sym table) (back_linked c.self.inside.queue c.self.inside.table c.self.invariant c.args.irp known c.put_back.new.self c.in-Taken.file c.in-Taken.named taken c.args.place relists)

pub invariant_of-self-in-Ok-Cancelled : goal.invariant_of-self-in-Ok-Cancelled
invariant_of-self-in-Ok-Cancelled c =
    let was : LedgerState = record { single = c.self.inside.queue; table = c.self.inside.table } in
    let inside : knows was c.args.irp.irp ≡ true = sym (subst (λ (s : LedgerState). true ≡ knows s c.args.irp.irp) (sym c.self.view_is) c.if-not-knows.ensures.known) in
    let stage : Taken c.in-Taken.file c.in-Taken.named ≡ named_stage was c.args.irp = subst (λ (s : LedgerState). Taken c.in-Taken.file c.in-Taken.named ≡ named_stage s c.args.irp) (sym c.self.view_is) c.in-Taken.ensures in
    let known = in_table was c.self.invariant c.args.irp inside _ stage taken_there in
    let taken = (named_at was c.args.irp _ stage taken_there).1 in
    let found : FindsCancelled c.args.irp c.self.inside.queue c.put_back.new.self = subst (λ (a : InsertAnswer IrpLife IrpLife). Returns c.args.irp c.args.place a c.self.inside.queue c.put_back.new.self) c.in-Ok-Cancelled.field-0-is c.in-Ok-Cancelled.ensures.returned in
    found_linked c.self.inside.queue c.self.inside.table c.self.invariant c.args.irp known c.put_back.new.self c.in-Taken.file c.in-Taken.named taken found

pub invariant_of-self-in-Err : goal.invariant_of-self-in-Err
invariant_of-self-in-Err c = still_linked c.self.inside.queue c.self.inside.table c.self.invariant c.put_back.new.self c.in-Err.ensures.kept c.self.inside.table refl refl

pub by_put_back-requires : goal.by_put_back-requires
by_put_back-requires c = may_refuse_it _ _ _ _ c.in-Err.cause c.in-Err.ensures.cause

pub returns-in-Ok-Pending : goal.returns-in-Ok-Pending
returns-in-Ok-Pending c =
    let was : LedgerState = record { single = c.self.inside.queue; table = c.self.inside.table } in
    let inside : knows was c.args.irp.irp ≡ true = sym (subst (λ (s : LedgerState). true ≡ knows s c.args.irp.irp) (sym c.self.view_is) c.if-not-knows.ensures.known) in
    let stage : Taken c.in-Taken.file c.in-Taken.named ≡ named_stage was c.args.irp = subst (λ (s : LedgerState). Taken c.in-Taken.file c.in-Taken.named ≡ named_stage s c.args.irp) (sym c.self.view_is) c.in-Taken.ensures in
    let known = in_table was c.self.invariant c.args.irp inside _ stage taken_there in
    let taken = (named_at was c.args.irp _ stage taken_there).1 in
    let table : c.list_again.new.self ≡ with_stage c.args.irp.irp (Listed c.in-Taken.file) c.self.inside.table = c.list_again.ensures ∙ ap (λ (x : Stage). with_stage c.args.irp.irp (as_listed x) c.self.inside.table) taken in
    let relists : Relists c.args.irp c.args.place c.self.inside.queue c.put_back.new.self = subst (λ (a : InsertAnswer IrpLife IrpLife). Returns c.args.irp c.args.place a c.self.inside.queue c.put_back.new.self) c.in-Ok-Pending.field-0-is c.in-Ok-Pending.ensures.returned in
    let now : LedgerState = record { single = c.put_back.new.self; table = c.list_again.new.self } in
    let so = accepted_back _ _ c.in-Ok-Pending.ensures.cause in
    let listed : PutsBackRequest c.args.irp c.args.place (Ok tt) was now = record {
      cause = rw (inside, sym (ap is_taken stage), so.0, so.1, relists.was_unflagged) refl;
      listed = relists;
      table = c.list_again.ensures;
      cancelled = λ e. absurd cc;
      kept = tt;
      same = tt;
    } in
    subst (λ (s : LedgerState). PutsBackRequest c.args.irp c.args.place (Ok tt) s now) c.self.view_is listed

pub returns-in-Ok-Cancelled : goal.returns-in-Ok-Cancelled
returns-in-Ok-Cancelled c =
    let was : LedgerState = record { single = c.self.inside.queue; table = c.self.inside.table } in
    let inside : knows was c.args.irp.irp ≡ true = sym (subst (λ (s : LedgerState). true ≡ knows s c.args.irp.irp) (sym c.self.view_is) c.if-not-knows.ensures.known) in
    let stage : Taken c.in-Taken.file c.in-Taken.named ≡ named_stage was c.args.irp = subst (λ (s : LedgerState). Taken c.in-Taken.file c.in-Taken.named ≡ named_stage s c.args.irp) (sym c.self.view_is) c.in-Taken.ensures in
    let known = in_table was c.self.invariant c.args.irp inside _ stage taken_there in
    let taken = (named_at was c.args.irp _ stage taken_there).1 in
    let found : FindsCancelled c.args.irp c.self.inside.queue c.put_back.new.self = subst (λ (a : InsertAnswer IrpLife IrpLife). Returns c.args.irp c.args.place a c.self.inside.queue c.put_back.new.self) c.in-Ok-Cancelled.field-0-is c.in-Ok-Cancelled.ensures.returned in
    let now : LedgerState = record { single = c.put_back.new.self; table = c.self.inside.table } in
    let so = accepted_back _ _ c.in-Ok-Cancelled.ensures.cause in
    let answer : PutsBackRequest c.args.irp c.args.place (Err back.Cancelled) was now = record {
      cause = rw (inside, sym (ap is_taken stage), so.0, so.1, found.was_flagged) refl;
      listed = tt;
      table = tt;
      cancelled = λ _. found;
      kept = refl;
      same = λ other. absurd (other refl);
    } in
    subst (λ (s : LedgerState). PutsBackRequest c.args.irp c.args.place (Err back.Cancelled) s now) c.self.view_is answer

pub returns-in-Err : goal.returns-in-Err
returns-in-Err c =
    let was : LedgerState = record { single = c.self.inside.queue; table = c.self.inside.table } in
    let inside : knows was c.args.irp.irp ≡ true = sym (subst (λ (s : LedgerState). true ≡ knows s c.args.irp.irp) (sym c.self.view_is) c.if-not-knows.ensures.known) in
    let stage : Taken c.in-Taken.file c.in-Taken.named ≡ named_stage was c.args.irp = subst (λ (s : LedgerState). Taken c.in-Taken.file c.in-Taken.named ≡ named_stage s c.args.irp) (sym c.self.view_is) c.in-Taken.ensures in
    let known = in_table was c.self.invariant c.args.irp inside _ stage taken_there in
    let taken = (named_at was c.args.irp _ stage taken_there).1 in
    let now : LedgerState = record { single = c.put_back.new.self; table = c.self.inside.table } in
    let refused : PutsBackRequest c.args.irp c.args.place (Err (by_put_back c.in-Err.cause)) was now = record {
      cause = rw (inside, sym (ap is_taken stage)) (refused_back _ _ _ c.in-Err.cause c.in-Err.ensures.cause);
      listed = tt;
      table = tt;
      cancelled = λ e. absurd (never_cancelled c.in-Err.cause e);
      kept = refl;
      same = λ _. c.in-Err.ensures.kept;
    } in
    subst (λ (s : LedgerState). PutsBackRequest c.args.irp c.args.place (Err c.by_put_back.result) s now) c.self.view_is
    (subst (λ (cause : PutBackRefused). PutsBackRequest c.args.irp c.args.place (Err cause) was now) (sym c.by_put_back.ensures) refused)
