use Rattle.std.proofs.Common.{sym, ap, ◌∙◌}
use Rattle.csq_replay.proofs.Imports.{IrpId, present, size_of, is_kept}
use Rattle.csq_replay.proofs.LastLines.{kept_more, kept_same}
use Rattle.csq_replay.proofs.script.remains.kept_irps.Goals.{then-is_kept+in_ok-push, else-is_kept}
use Rattle.csq_replay.proofs.script.remains.kept_irps.Goals as goal

pub loop-number-preserved : goal.loop-number-preserved
loop-number-preserved g c =
    elim c.if-is_kept.branch [
      | then-is_kept+in_ok-push w ↦ λ E a. kept_more (λ (n : IrpId). is_kept c.args.kept E (present (size_of c.args.driver.now.machine).first E n)) c.loop-number.number _ (c.loop-number.invariant E a) (sym (c.is_kept.ensures E a) ∙ w.if-is_kept.true) _ (ap (λ v. v.items) w.irps-is ∙ w.in_ok-push.ensures.items)
      | else-is_kept w ↦ λ E a. ap (λ v. v.items) w.irps-is ∙ kept_same (λ (n : IrpId). is_kept c.args.kept E (present (size_of c.args.driver.now.machine).first E n)) c.loop-number.number _ (c.loop-number.invariant E a) (sym (c.is_kept.ensures E a) ∙ w.if-is_kept.false)
    ]
