-- The texts of an explained script.
use Rattle.std.proofs.Common.{◌≡◌, Bool, true, false, cond, ℕ, ◌+◌, ◌<◌, List, [], ◌∷◌, ◌++◌, take, length, get_or, append_assoc, append-nil, refl, ap, sym, ◌∙◌, codes}
use Rattle.std.proofs.lemmas.List.{take_more}
use Rattle.irp_core.specs.declared.ids.IrpId.{IrpId}
use Rattle.irp_core.specs.Texts.{irp_text}
use Rattle.csq_words.specs.Queue.{Limits}
use Rattle.csq_replay.specs.declared.script.call.ScriptCall.{ScriptCall}
use Rattle.csq_replay.specs.declared.script.call.Reply.{Reply}
use Rattle.csq_replay.specs.declared.script.outcome.CallOutcome.{CallOutcome}
use Rattle.csq_replay.specs.declared.script.outcome.CallOutcome.TheVariants.{Skipped, Answered}
use Rattle.csq_replay.specs.declared.script.remains.Kept.TheVariants.{Held}
use Rattle.csq_replay.specs.Calls.{Script}
use Rattle.csq_replay.specs.ScriptAnswer.{AreLeft, listed_irps, kept_irps, call_text}
use Rattle.csq_explain.specs.CallSentences.{reply_sentence}
use Rattle.csq_explain.specs.Explaining.{remark}
use Rattle.csq_explain.specs.ExplainingCalls.{call_remark}
use Rattle.csq_explain.specs.ScriptExplanations.{call_line_text}
use Rattle.csq_explain.specs.ScriptEndings.{after_commas, explained_remains, explained_closing}

commas-append : (is js : List IrpId) → after_commas (is ++ js) ≡ after_commas is ++ after_commas js
commas-append [] js = refl
commas-append (i ∷ is) js = ap (λ t. (codes ", " ++ irp_text i) ++ t) (commas-append is js) ∙ sym (append_assoc (codes ", " ++ irp_text i) (after_commas is) (after_commas js))

-- one more number was added
pub commas_more : (irps : List IrpId) (k : ℕ) (d : IrpId) (first old new : List ℕ) → k < length irps → old ≡ first ++ after_commas (take k irps)
    → new ≡ old ++ (codes ", " ++ irp_text (get_or irps k d)) → new ≡ first ++ after_commas (take (k + 1) irps)
commas_more irps k d first old new lt reported written =
    written ∙ ap (λ t. t ++ (codes ", " ++ irp_text (get_or irps k d))) reported ∙ append_assoc first (after_commas (take k irps)) (codes ", " ++ irp_text (get_or irps k d))
    ∙ ap (λ t. first ++ (after_commas (take k irps) ++ t)) (sym (append-nil (codes ", " ++ irp_text (get_or irps k d))))
    ∙ ap (λ t. first ++ t) (sym (commas-append (take k irps) (get_or irps k d ∷ [])))
    ∙ ap (λ l. first ++ after_commas l) (sym (take_more irps k d lt))

-- the sentence below an answer to a call, by the sizes of the machine and the list
pub answered_remark : (l : Limits) (c : ScriptCall) (r : Reply) (irps files : ℕ) → irps ≡ l.irps → files ≡ l.files → remark (reply_sentence irps files c r) ≡ call_remark l (Answered c r)
answered_remark l c r irps files a b = ap (λ x. remark (reply_sentence x files c r)) a ∙ ap (λ x. remark (reply_sentence l.irps x c r)) b

-- the answer to a line, and a sentence where it is asked for
pub call_is : (b : Bool) (l : Limits) (n : ℕ) (comes : CallOutcome) → call_text n comes ++ cond b (call_remark l comes) [] ≡ call_line_text b l n comes
call_is true l n comes = refl
call_is false l n comes = append-nil (call_text n comes)

pub call_skipped_is : (b : Bool) (l : Limits) (n : ℕ) → [] ≡ call_line_text b l n Skipped
call_skipped_is true l n = refl
call_skipped_is false l n = refl

-- what is left is reported in the closing lines
pub same_remains : (l : Limits) (s : Script) (listed held owed : List IrpId) → AreLeft l s listed held owed → explained_remains listed held owed ≡ explained_closing l s
same_remains l s listed held owed left =
    ap (λ x. explained_remains x held owed) left.listed_are ∙ ap (λ x. explained_remains (listed_irps s) x owed) left.held_are ∙ ap (explained_remains (listed_irps s) (kept_irps l s Held)) left.owed_are
