use Rattle.std.proofs.Common.{◌<◌, ◌∙◌, rules}
use Rattle.std.specs.Arc.{arc_value}
use Rattle.irp_core.specs.declared.status.TheConstants.NtStatus.{CANCELLED}
use Rattle.csq_checked.proofs.Checking.{completion_keeps}
use Rattle.csq_checked.proofs.pass.CheckedPass.complete_cancelled.Goals as goal

pub invariant_of-self : goal.invariant_of-self
invariant_of-self c =
    let words = arc_value c.self.inside.words in
    let known : c.args.irp.irp.0 < words.size.irps = search rules in
    completion_keeps words c.self.inside.pass c.self.inside.held c.self.inside.owed c.self.invariant c.args.irp known CANCELLED _ _ (c.complete_cancelled.ensures.place ∙ (λ k. record c.self.inside.pass { pass = c.complete_cancelled.ensures.call.step k })) c.complete_cancelled.ensures.call.none_held c.set.ensures
