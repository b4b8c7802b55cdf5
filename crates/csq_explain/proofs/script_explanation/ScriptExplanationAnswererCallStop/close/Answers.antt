use Rattle.std.proofs.Common.{◌++◌, ◌∙◌, refl, ap, sym, string_bytes}
use Rattle.csq_replay.proofs.LastLines.{same_lines}
use Rattle.csq_explain.specs.ScriptExplanations.{closing_text}
use Rattle.csq_explain.proofs.ScriptTexts.{same_remains}
use Rattle.csq_explain.proofs.script_explanation.ScriptExplanationAnswererCallStop.close.Goals as goal

pub returns-then-self : goal.returns-then-self
returns-then-self g c = λ k s a.
    let closing = c.in_ok-explain_remains.ensures ∙ ap (λ t. string_bytes c.args.text.now ++ t) (same_remains k.0 s _ _ _ (c.in_ok-remains.ensures k.0 s a.stands)) in
    (closing_text k.1 k.0 s, rw (sym a.explains, c.if-self.true) closing, refl)

pub returns : goal.returns
returns g c = λ k s a.
    let closing = c.in_ok-write_lines.ensures ∙ ap (λ t. string_bytes c.args.text.now ++ t) (same_lines k.0 s _ _ _ (c.in_ok-remains.ensures k.0 s a.stands)) in
    (closing_text k.1 k.0 s, rw (sym a.explains, c.if-self.false) closing, refl)
