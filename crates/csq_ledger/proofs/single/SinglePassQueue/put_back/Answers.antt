use Rattle.std.proofs.Common.{◌≡◌, true, sym, ap, ◌∙◌, subst}
use Rattle.irp_core.specs.Own.{holds_in}
use Rattle.csq_ledger.specs.Moves.{PutsBack}
use Rattle.csq_ledger.specs.Singles.{IsKnown, Single, spot}
use Rattle.csq_ledger.proofs.Returning.{back_single, back_moves}
use Rattle.csq_ledger.proofs.single.SinglePassQueue.put_back.Goals as goal

pub invariant_of-self : goal.invariant_of-self
invariant_of-self c = back_single c.self.inside.queue c.self.inside.pass _ _ c.self.invariant c.args.irp c.args.place c.put_back.result c.put_back.ensures.call

pub returns : goal.returns
returns c =
    let known = subst (IsKnown c.args.irp) (sym c.self.view_is) c.requires.known in
    let held : holds_in c.self.inside.pass.pass.steps c.args.irp ≡ true = ap (holds_in c.self.inside.pass.pass.steps) known.is_present ∙ subst (λ (s : Single). (spot s c.args.irp.irp).is_held ≡ true) (sym c.self.view_is) c.requires.held in
    subst (λ (s : Single). PutsBack c.args.irp c.args.place c.put_back.result s (record { queue = c.put_back.new.self; pass = c.put_back.new.by })) c.self.view_is
    (back_moves c.self.inside.queue c.self.inside.pass _ _ c.self.invariant c.args.irp c.args.place known.in_range held c.put_back.result c.put_back.ensures.call)
