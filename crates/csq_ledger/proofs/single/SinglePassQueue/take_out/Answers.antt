use Rattle.std.proofs.Common.{◌≡◌, true, sym, ◌∙◌, subst}
use Rattle.csq_ledger.specs.Moves.{TakesOut}
use Rattle.csq_ledger.specs.Singles.{IsKnown, Single, spot}
use Rattle.csq_ledger.proofs.Cancelling.{mark_ok, routine_ok, takes_single, takes_out}
use Rattle.csq_ledger.proofs.single.SinglePassQueue.take_out.Goals as goal

pub unreachable-requires : goal.unreachable-requires
unreachable-requires c = mark_ok c.self.inside.queue c.self.inside.pass c.self.invariant c.args.irp (subst (IsKnown c.args.irp) (sym c.self.view_is) c.requires.known) _ c.mark_cancel.result c.mark_cancel.ensures.call (sym c.is_err.ensures.value ∙ c.if-is_err.true)

pub unreachable-requires-then-is_err-2 : goal.unreachable-requires-then-is_err-2
unreachable-requires-then-is_err-2 c = routine_ok c.self.inside.queue c.self.inside.pass c.self.invariant c.args.irp (subst (IsKnown c.args.irp) (sym c.self.view_is) c.requires.known) _ c.mark_cancel.result c.mark_cancel.ensures.call
    (subst (λ (s : Single). (spot s c.args.irp.irp).is_listed ≡ true) (sym c.self.view_is) c.requires.listed) _ _ c.cancel_routine.result c.cancel_routine.ensures.call (sym c.is_err-2.ensures.value ∙ c.if-is_err-2.true)

pub invariant_of-self : goal.invariant_of-self
invariant_of-self c = takes_single c.self.inside.queue c.self.inside.pass c.self.invariant c.args.irp (subst (IsKnown c.args.irp) (sym c.self.view_is) c.requires.known) _ c.mark_cancel.result c.mark_cancel.ensures.call
    (subst (λ (s : Single). (spot s c.args.irp.irp).is_listed ≡ true) (sym c.self.view_is) c.requires.listed) _ _ c.cancel_routine.result c.cancel_routine.ensures.call

pub returns : goal.returns
returns c = subst (λ (s : Single). TakesOut c.args.irp s (record { queue = c.cancel_routine.new.self; pass = c.cancel_routine.new.by })) c.self.view_is
    (takes_out c.self.inside.queue c.self.inside.pass c.self.invariant c.args.irp (subst (IsKnown c.args.irp) (sym c.self.view_is) c.requires.known) _ c.mark_cancel.result c.mark_cancel.ensures.call
    (subst (λ (s : Single). (spot s c.args.irp.irp).is_listed ≡ true) (sym c.self.view_is) c.requires.listed) _ _ c.cancel_routine.result c.cancel_routine.ensures.call)
