use Rattle.std.proofs.Common.{◌≡◌, length, ◌<◌, ℕ, None, sym, ap, ◌∙◌, subst}
use Rattle.request_table.specs.declared.stage.Stage.{Stage, TheVariants.{Listed, Taken, Ending}}
use Rattle.request_table.specs.Requests.{stage_of, with_due, with_stage}
use Rattle.request_table.specs.Stages.{as_ending, as_named}
use Rattle.csq_ledger.specs.Ledgers.{IsLinked, LedgerState}
use Rattle.csq_ledger.specs.Singles.{limits_of}
use Rattle.csq_ledger.proofs.Linking.{out_linked, flag_linked}
use Rattle.csq_ledger.proofs.ledger.Ledger.cut_short.Goals as goal

pub invariant_of-self : goal.invariant_of-self
invariant_of-self c =
    let t = c.self.inside.table in
    let stage : stage_of t c.args.irp.irp ≡ Listed c.in-Listed.file = sym c.in-Listed.ensures in
    let known : c.args.irp.irp.0 < length t.stages = subst (λ (k : ℕ). c.args.irp.irp.0 < k) (sym c.self.invariant.irps) (subst (λ (s : LedgerState). c.args.irp.irp.0 < (limits_of s.single).irps) (sym c.self.view_is) c.requires.in_range) in
    let table : c.begin_end.new.self ≡ with_due c.args.irp.irp None (with_stage c.args.irp.irp (Ending c.in-Listed.file c.args.why) t) = c.begin_end.ensures ∙ ap (λ (x : Stage). with_due c.args.irp.irp None (with_stage c.args.irp.irp (as_ending c.args.why x) t)) stage in
    subst (IsLinked c.take_out.new.self) (sym table) (out_linked c.self.inside.queue t c.self.invariant c.args.irp known c.take_out.new.self c.in-Listed.file c.args.why stage c.take_out.ensures)

pub invariant_of-self-in-Taken : goal.invariant_of-self-in-Taken
invariant_of-self-in-Taken c =
    let t = c.self.inside.table in
    let stage : stage_of t c.args.irp.irp ≡ Taken c.in-Taken.file c.in-Taken.named = sym c.in-Taken.ensures in
    let known : c.args.irp.irp.0 < length t.stages = subst (λ (k : ℕ). c.args.irp.irp.0 < k) (sym c.self.invariant.irps) (subst (λ (s : LedgerState). c.args.irp.irp.0 < (limits_of s.single).irps) (sym c.self.view_is) c.requires.in_range) in
    let table : c.name.new.self ≡ with_stage c.args.irp.irp (as_named c.args.why (Taken c.in-Taken.file c.in-Taken.named)) t = c.name.ensures ∙ ap (λ (x : Stage). with_stage c.args.irp.irp (as_named c.args.why x) t) stage in
    subst (IsLinked c.flag.new.self) (sym table) (flag_linked c.self.inside.queue t c.self.invariant c.args.irp known c.flag.new.self c.in-Taken.file c.in-Taken.named stage c.args.why c.flag.ensures)
