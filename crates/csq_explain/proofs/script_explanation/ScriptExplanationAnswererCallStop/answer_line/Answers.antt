use Rattle.std.proofs.Common.{◌++◌, ◌∙◌, [], Some, None, cond, ap, sym, refl, append-nil, string_bytes}
use Rattle.irp_core.specs.Runs.{Size}
use Rattle.csq_list.specs.Listing.{Listing}
use Rattle.csq_replay.specs.declared.script.outcome.CallOutcome.TheVariants.{Skipped, Answered, Stopped}
use Rattle.csq_replay.specs.ScriptAnswer.{call_text}
use Rattle.csq_explain.specs.CallSentences.{reply_sentence, call_stop_sentence}
use Rattle.csq_explain.specs.Explaining.{remark}
use Rattle.csq_explain.specs.ExplainingCalls.{call_remark}
use Rattle.csq_explain.specs.ScriptExplanations.{call_line_text}
use Rattle.csq_explain.proofs.Imports.{grew_more}
use Rattle.csq_explain.proofs.ScriptTexts.{answered_remark, call_is, call_skipped_is}
use Rattle.csq_explain.proofs.script_explanation.ScriptExplanationAnswererCallStop.answer_line.Goals as goal

pub returns-in-Skipped : goal.returns-in-Skipped
returns-in-Skipped g c = λ k s a.
    let (t, comes, kept) = c.in-Skipped.ensures k.0 s a.stands in
    (_, sym (append-nil _), (Some t, (Skipped, t, comes, call_skipped_is k.1 k.0 c.args.line.number, refl), record { stands = kept; explains = a.explains }))

pub returns-in_ok-add_remark-in-Answered : goal.returns-in_ok-add_remark-in-Answered
returns-in_ok-add_remark-in-Answered g c = λ k s a.
    let (t, comes, kept) = c.in-Answered.ensures k.0 s a.stands in
    let n = c.args.line.number in
    let call = c.in-Answered.call in
    let reply = c.in-Answered.reply in
    let between = string_bytes c.writeln.new.self in
    let irps = c.irps.ensures ∙ ap (λ (n : Size). n.irps) kept.0.size in
    let files = c.files.ensures ∙ ap (λ (x : Listing). x.files) kept.0.listing in
    let said = c.in_ok-add_remark-in-Answered.ensures ∙ ap (λ b. between ++ cond b (remark (reply_sentence c.irps.result c.files.result call reply)) []) a.explains ∙ ap (λ x. between ++ cond k.1 x []) (answered_remark k.0 call reply _ _ irps files) in (
      call_line_text k.1 k.0 n (Answered call reply),
      grew_more _ _ _ (call_text n (Answered call reply)) (cond k.1 (call_remark k.0 (Answered call reply)) []) c.in_ok-writeln-in-Answered.ensures.bytes said ∙ ap (λ x. string_bytes c.args.text.now ++ x) (call_is k.1 k.0 n (Answered call reply)),
      (Some t, (Answered call reply, t, comes, refl, refl), record { stands = kept; explains = a.explains }),
    )

pub returns-in_ok-add_remark-in-Stopped : goal.returns-in_ok-add_remark-in-Stopped
returns-in_ok-add_remark-in-Stopped g c = λ k s a.
    let (t, comes, kept) = c.in-Stopped.ensures k.0 s a.stands in
    let n = c.args.line.number in
    let stop = c.in-Stopped.stop in
    let between = string_bytes c.writeln-in-Stopped.new.self in
    let said = c.in_ok-add_remark-in-Stopped.ensures ∙ ap (λ b. between ++ cond b (remark (call_stop_sentence stop)) []) a.explains in (
      call_line_text k.1 k.0 n (Stopped stop),
      grew_more _ _ _ (call_text n (Stopped stop)) (cond k.1 (call_remark k.0 (Stopped stop)) []) c.in_ok-writeln-in-Stopped.ensures.bytes said ∙ ap (λ x. string_bytes c.args.text.now ++ x) (call_is k.1 k.0 n (Stopped stop)),
      (None, (Stopped stop, t, comes, refl, refl), (t, comes)),
    )
