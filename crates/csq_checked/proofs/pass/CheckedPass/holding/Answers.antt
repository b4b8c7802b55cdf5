use Rattle.std.proofs.Common.{◌≡◌, ℕ, ◌<◌, ◌∙◌, true, false, true≢false, Some, None, refl, sym, ap, subst, rules}
use Rattle.csq_checked.proofs.Imports.{arc_value, Life, holds_in, removed_in, Held, CheckedPassState, slot_at}
use Rattle.csq_checked.proofs.Checking.{slot_holds, slot_got, slot_not_held}
use Rattle.csq_checked.proofs.pass.CheckedPass.holding.Goals as goal

pub returns-in_err-held-clause-held : goal.returns-in_err-held-clause-held
returns-in_err-held-clause-held c =
    let words = arc_value c.self.inside.words in
    let known : c.args.irp.irp.0 < words.size.irps = search rules in
    let empty : slot_at c.self.inside.held c.args.irp.irp.0 ≡ None = search rules in
    let off = slot_not_held words c.self.inside.pass c.self.inside.held c.self.inside.owed c.self.invariant c.args.irp known _ c.tokens.ensures.apart (λ slot e life. let n : ◌≡◌ (Some slot) None = sym e ∙ empty in absurd (cc)) in
    let off' : holds_in c.args.self.now.pass.steps c.args.irp ≡ false = subst (λ (p : CheckedPassState). holds_in p.pass.steps c.args.irp ≡ false) c.self.view_is off in
    rw c.from_residual.ensures (λ e. absurd (true≢false (sym e)), λ e. absurd (true≢false (sym e ∙ off')))

pub returns-then-held-irp-clause-held : goal.returns-then-held-irp-clause-held
returns-then-held-irp-clause-held c =
    let words = arc_value c.self.inside.words in
    let known : c.args.irp.irp.0 < words.size.irps = search rules in
    let found : slot_at c.self.inside.held c.args.irp.irp.0 ≡ Some c.in_ok-held.held = sym c.in_ok-held.ensures in
    let other = c.if-held-irp.true in
    let off = slot_not_held words c.self.inside.pass c.self.inside.held c.self.inside.owed c.self.invariant c.args.irp known _ c.tokens.ensures.apart
    (λ slot e life. let same : ◌≡◌ (Some slot) (Some c.in_ok-held.held) = sym e ∙ found in let slot_is : slot ≡ c.in_ok-held.held = cc in absurd (other (ap (λ (h : Held). h.life.0) (sym slot_is) ∙ ap (λ (l : Life). l.0) life))) in
    let off' : holds_in c.args.self.now.pass.steps c.args.irp ≡ false = subst (λ (p : CheckedPassState). holds_in p.pass.steps c.args.irp ≡ false) c.self.view_is off in
    (λ e. absurd (true≢false (sym e)), λ e. absurd (true≢false (sym e ∙ off')))

pub returns-clause-held : goal.returns-clause-held
returns-clause-held c =
    let words = arc_value c.self.inside.words in
    let known : c.args.irp.irp.0 < words.size.irps = search rules in
    let found : slot_at c.self.inside.held c.args.irp.irp.0 ≡ Some c.in_ok-held.held = sym c.in_ok-held.ensures in
    let life_of : ℕ → Life = λ n. record { 0 = n } in
    let on = slot_holds words c.self.inside.pass c.self.inside.held c.self.inside.owed c.self.invariant c.args.irp known c.in_ok-held.held found (ap life_of (sym c.if-held-irp.false)) in
    let on' : holds_in c.args.self.now.pass.steps c.args.irp ≡ true = subst (λ (p : CheckedPassState). holds_in p.pass.steps c.args.irp ≡ true) c.self.view_is on.held in
    (λ _. on', λ _. refl)

pub returns-clause-removed : goal.returns-clause-removed
returns-clause-removed c =
    let words = arc_value c.self.inside.words in
    let known : c.args.irp.irp.0 < words.size.irps = search rules in
    let found : slot_at c.self.inside.held c.args.irp.irp.0 ≡ Some c.in_ok-held.held = sym c.in_ok-held.ensures in
    let life_of : ℕ → Life = λ n. record { 0 = n } in
    let got = slot_got words c.self.inside.pass c.self.inside.held c.self.inside.owed c.self.invariant c.args.irp known c.in_ok-held.held found (ap life_of (sym c.if-held-irp.false)) in
    sym (subst (λ (p : CheckedPassState). removed_in p.pass.steps c.args.irp ≡ c.in_ok-held.held.removed) c.self.view_is got)
