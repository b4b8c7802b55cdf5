use Rattle.std.proofs.Common.{Err, ◌≡◌, ◌∙◌, true, ap, Bool, Ok, sym, subst}
use Rattle.csq_ledger.specs.Moves.{Ends, Finishes}
use Rattle.csq_ledger.specs.Singles.{IsKnown, Single, spot}
use Rattle.irp_core.specs.Own.{holds_in}
use Rattle.csq_ledger.proofs.Finishing.{finish_single, finish_ends, late}
use Rattle.csq_ledger.proofs.single.SinglePassQueue.finish.Goals as goal

pub invariant_of-self : goal.invariant_of-self
invariant_of-self c = finish_single c.self.inside.queue c.self.inside.pass c.self.invariant c.args.irp c.args.status _ c.in-Ok.ensures.call c.in-Ok.ensures.held _ _ _ c.reuse.ensures.call

pub returns-in-Ok : goal.returns-in-Ok
returns-in-Ok c =
    let known = subst (IsKnown c.args.irp) (sym c.self.view_is) c.requires.known in
    let held : holds_in c.self.inside.pass.pass.steps c.args.irp ≡ true = ap (holds_in c.self.inside.pass.pass.steps) known.is_present ∙ subst (λ (s : Single). (spot s c.args.irp.irp).is_held ≡ true) (sym c.self.view_is) c.requires.held in
    let why = late c.self.inside.queue c.self.inside.pass c.self.invariant c.args.irp known held c.args.status in
    let now : Single = record { queue = c.reuse.new.self; pass = c.reuse.new.by } in
    subst (λ (s : Single). Finishes c.args.irp c.args.status (Ok c.is_err.result) s now) c.self.view_is (record {
      cause = c.in-Ok.ensures.cause ∙ why;
      ended = subst (λ (b : Bool). Ends c.args.irp.irp b (record { queue = c.self.inside.queue; pass = c.self.inside.pass }) now) (sym c.is_err.ensures.value)
          (finish_ends c.self.inside.queue c.self.inside.pass c.self.invariant c.args.irp c.args.status _ c.in-Ok.ensures.call c.in-Ok.ensures.held _ _ _ c.reuse.ensures.call);
      kept = tt;
    })

pub returns-in-Err : goal.returns-in-Err
returns-in-Err c =
    let known = subst (IsKnown c.args.irp) (sym c.self.view_is) c.requires.known in
    let held : holds_in c.self.inside.pass.pass.steps c.args.irp ≡ true = ap (holds_in c.self.inside.pass.pass.steps) known.is_present ∙ subst (λ (s : Single). (spot s c.args.irp.irp).is_held ≡ true) (sym c.self.view_is) c.requires.held in
    let why = late c.self.inside.queue c.self.inside.pass c.self.invariant c.args.irp known held c.args.status in
    let now : Single = record { queue = c.self.inside.queue; pass = c.complete.new.pass } in
    let was : Single = record { queue = c.self.inside.queue; pass = c.self.inside.pass } in
    let refused : Finishes c.args.irp c.args.status (Err c.in-Err.cause) was now = record {
      cause = c.in-Err.ensures.cause ∙ why;
      ended = tt;
      kept = λ k. record { queue = c.self.inside.queue; pass = c.in-Err.ensures.kept k };
    } in
    subst (λ (s : Single). Finishes c.args.irp c.args.status (Err c.in-Err.cause) s now) c.self.view_is refused
