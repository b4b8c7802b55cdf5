use Rattle.std.proofs.Common.{◌++◌, ◌∙◌, List, ap, string_bytes}
use Rattle.csq_replay.proofs.Imports.{IrpId, left_line, named_line, kept_name}
use Rattle.csq_replay.specs.declared.script.remains.Kept.TheVariants.{Held, Owed}
use Rattle.csq_replay.proofs.LastLines.{grew_thrice}
use Rattle.csq_replay.proofs.script.remains.Remains.write_lines.Goals as goal

pub returns : goal.returns
returns g c =
    grew_thrice _ _ _ _ _ _ _
    (c.in_ok-write_left.ensures ∙ ap (λ (irps : List IrpId). string_bytes c.args.text.now ++ left_line irps) c.deref.ensures.value)
    (c.in_ok-write_kept.ensures ∙ ap (λ (irps : List IrpId). string_bytes c.write_left.new.text ++ named_line (kept_name Held) irps) c.deref-2.ensures.value)
    (c.in_ok-write_kept-2.ensures ∙ ap (λ (irps : List IrpId). string_bytes c.write_kept.new.text ++ named_line (kept_name Owed) irps) c.deref-3.ensures.value)
