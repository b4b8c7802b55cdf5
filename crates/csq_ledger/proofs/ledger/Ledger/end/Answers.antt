use Rattle.std.proofs.Common.{◌≡◌, true, Ok, refl, sym, ap, subst}
use Rattle.std.specs.Prelude.{IsTrue}
use Rattle.request_table.specs.declared.stage.Stage.{Stage, TheVariants.{Ending}}
use Rattle.request_table.specs.Stages.{may_finish}
use Rattle.csq_ledger.specs.Calls.{EndsRequest}
use Rattle.csq_ledger.specs.Ledgers.{is_ending, IsLinked, LedgerState, knows, named_stage}
use Rattle.csq_ledger.proofs.Linking.{end_linked}
use Rattle.csq_ledger.proofs.Naming.{in_table, named_at, is_known, spot_at, ending_there}
use Rattle.csq_ledger.proofs.ledger.Ledger.end.Goals as goal

pub finish-requires : goal.finish-requires
finish-requires c =
    let was : LedgerState = record { single = c.self.inside.queue; table = c.self.inside.table } in
    let inside : knows was c.args.irp.irp ≡ true = sym (subst (λ (s : LedgerState). true ≡ knows s c.args.irp.irp) (sym c.self.view_is) c.if-not-knows.ensures.known) in
    let stage : Ending c.in-Ending.file c.in-Ending.why ≡ named_stage was c.args.irp = subst (λ (s : LedgerState). Ending c.in-Ending.file c.in-Ending.why ≡ named_stage s c.args.irp) (sym c.self.view_is) c.in-Ending.ensures in
    record {
      known = is_known was c.self.invariant c.args.irp inside _ stage ending_there;
      held = (spot_at was c.self.invariant c.args.irp inside _ stage ending_there).held;
    }

pub finish-requires-in-Ok : goal.finish-requires-in-Ok
finish-requires-in-Ok c =
    let was : LedgerState = record { single = c.self.inside.queue; table = c.self.inside.table } in
    let stage : Ending c.in-Ending.file c.in-Ending.why ≡ named_stage was c.args.irp = subst (λ (s : LedgerState). Ending c.in-Ending.file c.in-Ending.why ≡ named_stage s c.args.irp) (sym c.self.view_is) c.in-Ending.ensures in
    subst (λ (x : Stage). IsTrue (may_finish x)) (sym (named_at was c.args.irp _ stage ending_there).1) refl

pub invariant_of-self : goal.invariant_of-self
invariant_of-self c =
    let was : LedgerState = record { single = c.self.inside.queue; table = c.self.inside.table } in
    let inside : knows was c.args.irp.irp ≡ true = sym (subst (λ (s : LedgerState). true ≡ knows s c.args.irp.irp) (sym c.self.view_is) c.if-not-knows.ensures.known) in
    let stage : Ending c.in-Ending.file c.in-Ending.why ≡ named_stage was c.args.irp = subst (λ (s : LedgerState). Ending c.in-Ending.file c.in-Ending.why ≡ named_stage s c.args.irp) (sym c.self.view_is) c.in-Ending.ensures in
    subst (IsLinked c.finish.new.self) (sym c.finish-in-Ok.ensures.finished) (end_linked c.self.inside.queue c.self.inside.table c.self.invariant c.args.irp (in_table was c.self.invariant c.args.irp inside _ stage ending_there) c.finish.new.self c.in-Ok.is_last c.in-Ok.ensures.ended)

pub returns : goal.returns
returns c =
    let was : LedgerState = record { single = c.self.inside.queue; table = c.self.inside.table } in
    let now : LedgerState = record { single = c.finish.new.self; table = c.finish-in-Ok.new.self } in
    let inside : knows was c.args.irp.irp ≡ true = sym (subst (λ (s : LedgerState). true ≡ knows s c.args.irp.irp) (sym c.self.view_is) c.if-not-knows.ensures.known) in
    let stage : Ending c.in-Ending.file c.in-Ending.why ≡ named_stage was c.args.irp = subst (λ (s : LedgerState). Ending c.in-Ending.file c.in-Ending.why ≡ named_stage s c.args.irp) (sym c.self.view_is) c.in-Ending.ensures in
    let ended : EndsRequest c.args.irp (Ok c.finish-in-Ok.result) was now = record {
      cause = rw (inside, sym (ap is_ending stage)) refl;
      ended = record {
        is_last = c.in-Ok.is_last;
        ends = c.in-Ok.ensures.ended;
        table = c.finish-in-Ok.ensures.finished;
        file = c.finish-in-Ok.ensures.file;
        file_is_quiet = c.finish-in-Ok.ensures.file_is_quiet;
        all_are_quiet = c.finish-in-Ok.ensures.all_are_quiet;
      };
      kept = tt;
    } in
    subst (λ (s : LedgerState). EndsRequest c.args.irp (Ok c.finish-in-Ok.result) s now) c.self.view_is ended

pub unreachable-requires : goal.unreachable-requires
unreachable-requires c = let refused = c.in-Err.ensures.cause in absurd (cc)
