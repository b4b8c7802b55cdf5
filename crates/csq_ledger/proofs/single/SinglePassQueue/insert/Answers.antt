use Rattle.std.proofs.Common.{◌≡◌, false, Ok, sym, subst}
use Rattle.csq_queue.specs.Calls.{Inserts as OpenInserts}
use Rattle.csq_queue.specs.declared.tokens.InsertAnswer.{InsertAnswer}
use Rattle.irp_core.specs.declared.ids.IrpLife.{IrpLife}
use Rattle.csq_checked.specs.Calls.{MakesCall}
use Rattle.csq_ledger.specs.Moves.{Inserts}
use Rattle.csq_ledger.specs.Singles.{Single, spot}
use Rattle.csq_ledger.proofs.Inserting.{insert_single, not_cancelled, insert_lists}
use Rattle.csq_ledger.proofs.single.SinglePassQueue.insert.Goals as goal

pub unreachable-requires : goal.unreachable-requires
unreachable-requires c =
    let call = subst (λ (a : InsertAnswer IrpLife IrpLife). MakesCall (OpenInserts c.args.irp c.args.file c.args.place (Ok a)) c.self.inside.queue c.self.inside.pass c.insert.new.self c.insert.new.by) c.in-Cancelled.is c.in_ok-name.ensures.call in
    not_cancelled c.self.inside.queue c.self.inside.pass _ _ c.self.invariant c.args.irp c.args.file c.args.place (subst (λ (s : Single). (spot s c.args.irp).is_flagged ≡ false) (sym c.self.view_is) c.requires.unflagged) c.in-Cancelled.field-0 call

pub invariant_of-self-2 : goal.invariant_of-self-2
invariant_of-self-2 c = insert_single c.self.inside.queue c.self.inside.pass _ _ c.self.invariant c.args.irp c.args.file c.args.place (Ok c.in_ok-name.field-0) c.in_ok-name.ensures.call

pub returns : goal.returns
returns c =
    let call = subst (λ (a : InsertAnswer IrpLife IrpLife). MakesCall (OpenInserts c.args.irp c.args.file c.args.place (Ok a)) c.self.inside.queue c.self.inside.pass c.insert.new.self c.insert.new.by) c.in-Pending.is c.in_ok-name.ensures.call in
    subst (λ (s : Single). Inserts c.args.irp c.args.file c.args.place (Ok c.in-Pending.name) s (record { queue = c.insert.new.self; pass = c.insert.new.by })) c.self.view_is (record {
      name = call.call.accepted.1.0;
      listed = insert_lists c.self.inside.queue c.self.inside.pass _ _ c.self.invariant c.args.irp c.args.file c.args.place (subst (λ (s : Single). (spot s c.args.irp).is_flagged ≡ false) (sym c.self.view_is) c.requires.unflagged) c.in-Pending.name call;
      cause = tt;
      kept = tt;
    })
