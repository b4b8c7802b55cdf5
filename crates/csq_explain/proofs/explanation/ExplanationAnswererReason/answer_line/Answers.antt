use Rattle.std.proofs.Common.{append_assoc, List, ℕ, ◌++◌, ◌∷◌, ◌∙◌, [], Some, None, cond, ap, sym, refl, append-nil, string_bytes, codes, decimal}
use Rattle.std.proofs.lemmas.Str.{IsUtf8-from_ascii}
use Rattle.csq_explain.proofs.Imports.{Skipped, Accepted, Stopped, Numbered, StepInCall, remark, reason_text, sentence, grew_more}
use Rattle.csq_replay.specs.Outcomes.{step_of}
use Rattle.csq_replay.specs.Schedule.{answer_text}
use Rattle.csq_replay.proofs.StepText.{line_ascii}
use Rattle.csq_explain.specs.Explaining.{line_remark}
use Rattle.csq_explain.specs.Explanations.{line_text, noted_claim, noted_claims}
use Rattle.csq_explain.specs.declared.reasons.Reason.{Reason}
use Rattle.csq_explain.proofs.Closings.{line_is, skipped_is, claims_more}
use Rattle.csq_explain.proofs.Outcomes.{was_skipped, was_accepted, was_stopped}
use Rattle.csq_explain.proofs.explanation.ExplanationAnswererReason.answer_line.Goals as goal

pub unreachable-requires : goal.unreachable-requires
unreachable-requires g c =
    let (k, W, a) = c.requires in
    let came = was_accepted k.0 W c.args.line.number c.args.line.bytes.now _ c.in-Accepted.step (c.in-Accepted.ensures k.0 W a.follows) in
    c.in_default.ensures.cases.0 (IsUtf8-from_ascii _ (line_ascii _ (step_of c.in-Accepted.step.made) came.0.0))

pub returns-in-Skipped : goal.returns-in-Skipped
returns-in-Skipped g c = λ k W a.
    let came = was_skipped k.0 W c.args.line.number c.args.line.bytes.now _ (c.in-Skipped.ensures k.0 W a.follows) in (
      [],
      sym (append-nil _),
      (Some W, (Skipped, came.0, skipped_is k.2 k.0 W c.args.line.number c.args.line.bytes.now, refl), record { follows = came.1; asks = a.asks; explains = a.explains; claims = a.claims }),
    )

pub returns-in_ok-add_remark-in-Accepted : goal.returns-in_ok-add_remark-in-Accepted
returns-in_ok-add_remark-in-Accepted g c = λ k W a.
    let step = c.in-Accepted.step in
    let made = step.made in
    let w : Numbered = record { line = c.args.line.number; step = made } in
    let old = string_bytes c.args.text.now in
    let came = was_accepted k.0 W c.args.line.number c.args.line.bytes.now _ step (c.in-Accepted.ensures k.0 W a.follows) in
    let answer : List ℕ = answer_text W c.args.line.number c.args.line.bytes.now (Accepted made) in
    let tail : List ℕ = codes " found " ++ (decimal made.found ++ codes "\n") in
    let line = c.in_ok-writeln-in-Accepted.ensures.bytes ∙ (ap (λ t. t ++ tail) c.in_ok-push_str-in-Accepted.ensures.bytes ∙ (append_assoc old c.in-Ok.written.now tail ∙ ap (λ line. old ++ (line ++ tail)) c.in-Ok.ensures.cases.0)) in
    let between = string_bytes c.writeln.new.self in
    let said = c.in_ok-add_remark-in-Accepted.ensures ∙ ap (λ b. between ++ cond b (remark (sentence step)) []) a.explains ∙ ap (λ (s : StepInCall). between ++ cond k.2 (remark (sentence s)) []) came.1 in
    let claims = c.in_ok-note_claim-in-Accepted.ensures ∙ ap (λ t. t ++ noted_claim c.args.self.now.explains w) a.claims ∙ ap (λ b. noted_claims k.2 W ++ noted_claim b w) a.explains ∙ claims_more k.2 w W in (
      line_text k.2 k.0 W c.args.line.number c.args.line.bytes.now (Accepted made),
      grew_more _ _ _ answer (cond k.2 (line_remark k.0 W (Accepted made)) []) line said ∙ ap (λ t. old ++ t) (line_is k.2 k.0 W c.args.line.number c.args.line.bytes.now (Accepted made)),
      (Some (w ∷ W), (Accepted made, came.0, refl, refl), record { follows = came.2; asks = a.asks; explains = a.explains; claims = claims }),
    )

pub returns-in_ok-add_remark-in-Stopped : goal.returns-in_ok-add_remark-in-Stopped
returns-in_ok-add_remark-in-Stopped g c = λ k W a.
    let reason = c.in-Stopped.reason in
    let old = string_bytes c.args.text.now in
    let came = was_stopped k.0 W c.args.line.number c.args.line.bytes.now _ reason (c.in-Stopped.ensures k.0 W a.follows) in
    let answer : List ℕ = answer_text W c.args.line.number c.args.line.bytes.now (Stopped reason.stop) in
    let between = string_bytes c.writeln-in-Stopped.new.self in
    let said = c.in_ok-add_remark-in-Stopped.ensures ∙ ap (λ b. between ++ cond b (remark (reason_text reason)) []) a.explains ∙ ap (λ (r : Reason). between ++ cond k.2 (remark (reason_text r)) []) came.1 in (
      line_text k.2 k.0 W c.args.line.number c.args.line.bytes.now (Stopped reason.stop),
      grew_more _ _ _ answer (cond k.2 (line_remark k.0 W (Stopped reason.stop)) []) c.in_ok-writeln-in-Stopped.ensures.bytes said ∙ ap (λ t. old ++ t) (line_is k.2 k.0 W c.args.line.number c.args.line.bytes.now (Stopped reason.stop)),
      (None, (Stopped reason.stop, came.0, refl, refl), (came.0, came.1)),
    )
