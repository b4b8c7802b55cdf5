use Rattle.std.proofs.Common.{◌≡◌, true, sym, ◌∙◌, subst}
use Rattle.csq_ledger.specs.Moves.{Flags}
use Rattle.csq_ledger.specs.Singles.{IsKnown, Single, spot}
use Rattle.csq_ledger.proofs.Cancelling.{mark_ok, flags_single, flags_it}
use Rattle.csq_ledger.proofs.single.SinglePassQueue.flag.Goals as goal

pub unreachable-requires : goal.unreachable-requires
unreachable-requires c = mark_ok c.self.inside.queue c.self.inside.pass c.self.invariant c.args.irp (subst (IsKnown c.args.irp) (sym c.self.view_is) c.requires.known) _ c.mark_cancel.result c.mark_cancel.ensures.call (sym c.is_err.ensures.value ∙ c.if-is_err.true)

pub invariant_of-self : goal.invariant_of-self
invariant_of-self c = flags_single c.self.inside.queue c.self.inside.pass c.self.invariant c.args.irp (subst (IsKnown c.args.irp) (sym c.self.view_is) c.requires.known) _ c.mark_cancel.result c.mark_cancel.ensures.call
    (subst (λ (s : Single). (spot s c.args.irp.irp).is_held ≡ true) (sym c.self.view_is) c.requires.held)

pub returns : goal.returns
returns c = subst (λ (s : Single). Flags c.args.irp s (record { queue = c.self.inside.queue; pass = c.mark_cancel.new.self })) c.self.view_is
    (flags_it c.self.inside.queue c.self.inside.pass c.self.invariant c.args.irp (subst (IsKnown c.args.irp) (sym c.self.view_is) c.requires.known) _ c.mark_cancel.result c.mark_cancel.ensures.call
    (subst (λ (s : Single). (spot s c.args.irp.irp).is_held ≡ true) (sym c.self.view_is) c.requires.held))
