-- What a handled script has come to.
use Rattle.std.proofs.Common.{◌≡◌, ℕ, ◌+◌, List, [], ◌∷◌, ◌++◌, Some, refl, ap, sym, ◌∙◌, append_assoc, subst}
use Rattle.csq_replay.proofs.Imports.{Limits, Ended, lines_of, Script, new_script, AnswersAll, AnswersCall, IsScriptAnswer, going_on, closing_lines, LeadTo, EndsWith, EachInsertedIrpIsAccountedFor}
use Rattle.csq_replay.specs.declared.lines.answer.Ended.TheVariants.{AllHandled}
use Rattle.csq_replay.specs.Lines.AnswersAll.{all_handled, goes_on, stops}
use Rattle.csq_replay.specs.Lines.IsAnswer.{too_long_input, answered as lines_answered}
use Rattle.csq_replay.specs.declared.script.outcome.CallOutcome.{CallOutcome}
use Rattle.csq_replay.specs.declared.script.outcome.CallOutcome.TheVariants.{Skipped, Answered, Stopped}
use Rattle.csq_replay.specs.CallOutcomes.{CallComesTo}
use Rattle.csq_replay.specs.Laws.LeadTo.{at_end, by_nothing, by_call}
use Rattle.csq_replay.proofs.Accounting.{new_accounts, led_accounts}

module _ (l : Limits) where
  -- a line leads on by its call, or by nothing
  led_by : (s t u : Script) (line : List ℕ) (lines : List (List ℕ)) (last : Script) (comes : CallOutcome) → CallComesTo l s line comes u → Some t ≡ going_on comes u
      → LeadTo l t lines last → LeadTo l s (line ∷ lines) last
  led_by s t u line lines last Skipped came e led =
      let same : t ≡ s = cc (e, came.2) in by_nothing s last line lines came.1 (subst (λ v. LeadTo l v lines last) same led)
  led_by s t u line lines last (Answered c r) came e led =
      let same : t ≡ u = cc e in by_call s u last line lines c r came.0 came.1 (subst (λ v. LeadTo l v lines last) same led)
  led_by s t u line lines last (Stopped stop) came e led = absurd (cc e)

  lines_end : (s : Script) (n : ℕ) (lines : List (List ℕ)) (text : List ℕ) (ended : Ended) → AnswersAll (AnswersCall l) (λ s text. text ≡ closing_lines l s) s n lines text ended → ended ≡ AllHandled
      → (last : Script) × LeadTo l s lines last × EndsWith text (closing_lines l last)
  lines_end s n lines text ended (all_handled a m reported closed) e = (s, at_end s, ([], closed))
  lines_end s n lines text ended (goes_on a t m line left reported rest ended' (comes, u, came, is_reported, on) answers) e =
      let (last, led, (front, is)) = lines_end t (n + 1) left rest ended answers e in
      (last, led_by s t u line left last comes came on led, (reported ++ front, ap (λ x. reported ++ x) is ∙ sym (append_assoc reported front (closing_lines l last))))
  lines_end s n lines text ended (stops a m line left reported h) e = absurd (cc e)

  handled : (input text : List ℕ) (ended : Ended) → IsScriptAnswer l input text ended → ended ≡ AllHandled
      → (last : Script) × LeadTo l (new_script l) (lines_of input) last × EndsWith text (closing_lines l last)
  handled input text ended (too_long_input lt) e = absurd (cc e)
  handled input text ended (lines_answered text' ended' le answers) e = lines_end (new_script l) 1 (lines_of input) text ended answers e

  pub accounted : EachInsertedIrpIsAccountedFor l
  accounted input text is =
      let (last, led, ends) = handled input text AllHandled is refl in
      (last, led, ends, λ i used. (led_accounts l (new_script l) last (lines_of input) led (new_accounts l)).each i used)
