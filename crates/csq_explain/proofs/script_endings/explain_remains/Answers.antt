use Rattle.std.proofs.Common.{◌++◌, ◌∙◌, List, ap, string_bytes}
use Rattle.irp_core.specs.declared.ids.IrpId.{IrpId}
use Rattle.csq_replay.specs.declared.script.remains.Kept.TheVariants.{Held, Owed}
use Rattle.csq_replay.proofs.LastLines.{grew_thrice}
use Rattle.csq_explain.specs.ScriptEndings.{explained_left, explained_kept}
use Rattle.csq_explain.proofs.script_endings.explain_remains.Goals as goal

pub returns : goal.returns
returns g c =
    grew_thrice _ _ _ _ _ _ _
    (c.in_ok-explain_left.ensures ∙ ap (λ (irps : List IrpId). string_bytes c.args.text.now ++ explained_left irps) c.deref.ensures.value)
    (c.in_ok-explain_kept.ensures ∙ ap (λ (irps : List IrpId). string_bytes c.explain_left.new.text ++ explained_kept Held irps) c.deref-2.ensures.value)
    (c.in_ok-explain_kept-2.ensures ∙ ap (λ (irps : List IrpId). string_bytes c.explain_kept.new.text ++ explained_kept Owed irps) c.deref-3.ensures.value)
