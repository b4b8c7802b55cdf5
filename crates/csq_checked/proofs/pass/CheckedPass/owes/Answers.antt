use Rattle.std.proofs.Common.{◌≡◌, ◌<◌, ◌==◌, ◌∙◌, false, Some, None, sym, subst, rules}
use Rattle.csq_checked.proofs.Imports.{arc_value, owes_in, CheckedPassState, slot_at}
use Rattle.csq_checked.proofs.Checking.{slot_owed_is, slot_not_owed}
use Rattle.csq_checked.proofs.pass.CheckedPass.owes.Goals as goal

pub returns-in-Some : goal.returns-in-Some
returns-in-Some c =
    let words = arc_value c.self.inside.words in
    let known : c.args.irp.irp.0 < words.size.irps = search rules in
    let found : slot_at c.self.inside.owed c.args.irp.irp.0 ≡ Some c.in-Some.life = sym c.in-Some.ensures in
    let promised = slot_owed_is words c.self.inside.pass c.self.inside.held c.self.inside.owed c.self.invariant c.args.irp known _ c.claims.ensures.apart c.in-Some.life found in
    subst (λ (p : CheckedPassState). (c.in-Some.life.0 == c.args.irp.life.0) ≡ owes_in p.pass.steps c.args.irp) c.self.view_is promised

pub returns-in-None : goal.returns-in-None
returns-in-None c =
    let words = arc_value c.self.inside.words in
    let known : c.args.irp.irp.0 < words.size.irps = search rules in
    let empty : slot_at c.self.inside.owed c.args.irp.irp.0 ≡ None = sym c.in-None.ensures in
    let off = slot_not_owed words c.self.inside.pass c.self.inside.held c.self.inside.owed c.self.invariant c.args.irp known _ c.claims.ensures.apart (λ e. let n : ◌≡◌ (Some c.args.irp.life) None = sym e ∙ empty in absurd (cc)) in
    sym (subst (λ (p : CheckedPassState). owes_in p.pass.steps c.args.irp ≡ false) c.self.view_is off)
