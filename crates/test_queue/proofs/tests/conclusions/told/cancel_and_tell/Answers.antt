use Rattle.std.proofs.Common.{◌≡◌, Bool, true, false, Result, refl, sym, ap, subst, ◌∙◌}
use Rattle.std.specs.Prelude.{IfOk, ℕ, List, ◌∷◌}
use Rattle.irp_core.specs.declared.ids.IrpLife.{IrpLife}
use Rattle.irp_core.specs.declared.step.Made.{Made}
use Rattle.irp_core.specs.declared.step.Kind.TheVariants.{Flag, Take, Done}
use Rattle.irp_core.specs.declared.status.TheConstants.NtStatus.{CANCELLED}
use Rattle.irp_core.specs.Words.{flagged}
use Rattle.irp_core.specs.Steps.{own}
use Rattle.irp_core.proofs.Names.{same_irp-refl}
use Rattle.irp_core.proofs.Own.{flagged_own}
use Rattle.csq_words.specs.Traces.{steps_in}
use Rattle.csq_words.specs.declared.views.HistoryEntry.{HistoryEntry}
use Rattle.csq_words.specs.declared.views.Event.TheVariants.{Out}
use Rattle.csq_words.specs.declared.views.PassRecord.{PassRecord}
use Rattle.csq_words.specs.Calls.{due_mark}
use Rattle.csq_words.specs.History.{end_of}
use Rattle.csq_words.specs.Records.{saw, with_step, with_completion}
use Rattle.csq_words.specs.Rule.{FindsUnset}
use Rattle.csq_queue.specs.declared.refusals.CancelRefused.{CancelRefused}
use Rattle.csq_queue.specs.Cleanups.{cancelled_by}
use Rattle.csq_queue.specs.Named.{named, queue_size}
use Rattle.csq_queue.specs.Owned.{EndsWithTake}
use Rattle.csq_queue.specs.Effects.{AddsEvents}
use Rattle.test_queue.proofs.tests.conclusions.told.cancel_and_tell.Goals as goal

-- what a pass flagged is flagged in what it has seen of the execution
seen_flag : (i : IrpLife) (r : PassRecord) (steps : List Made) → r.steps ≡ own r.pass (steps_in r.trace) → r.steps ≡ steps → flagged steps i ≡ true → flagged (steps_in r.trace) i ≡ true
seen_flag i r steps own_is is set = flagged_own r.pass (steps_in r.trace) i (ap (λ s. flagged s i) (sym own_is ∙ is) ∙ set)

pub returns : goal.returns
returns g c = record {
  flagged = λ done answer.
      let l = g.N.QueueName.limits in
      let i = named c.args.irp c.args.life in
      let old = c.args.canceller.now in
      let new = c.cancel-done.new.pass in
      let Completes : Bool → Type 0 = λ d. d ≡ true → (history : List HistoryEntry) × (out : PassRecord) × AddsEvents l history old out (Out i ∷ due_mark i (end_of l.first history))
      × (new ≡ saw new.trace (with_completion i CANCELLED (with_step (Done i) 0 out))) × FindsUnset (queue_size l) i out new in
      let Steps : Bool → Type 0 = λ d. d ≡ true → (flag : ℕ) × (new ≡ record (cancelled_by i flag old) { seen = new.seen; mine = new.mine; trace = new.trace }) in
      let Leaves : Bool → Type 0 = λ d. d ≡ false → (flag : ℕ) × (new ≡ saw new.trace (with_step (Take i) 0 (with_step (Flag i) flag old))) × EndsWithTake (queue_size l) i flag 0 old new in
      let completes : Completes done = subst (λ (r : Result Bool CancelRefused). IfOk r Completes) answer c.cancel-done.ensures.call in
      let steps : Steps done = subst (λ (r : Result Bool CancelRefused). IfOk r Steps) answer c.cancel-done.ensures.done in
      let leaves : Leaves done = subst (λ (r : Result Bool CancelRefused). IfOk r Leaves) answer c.cancel-done.ensures.left in
      let both : (d : Bool) → done ≡ d → flagged (steps_in new.trace) i ≡ true = elim [
        | true ↦ λ e. let all = completes e in seen_flag i new _ all.4.last.steps_are (ap (λ (r : PassRecord). r.steps) (steps e).1) (rw same_irp-refl refl)
        | false ↦ λ e. let left = leaves e in seen_flag i new _ left.2.steps_are (ap (λ (r : PassRecord). r.steps) left.1) (rw same_irp-refl refl)
      ] in
      ap (λ s. flagged (steps_in s.trace) i) c.seen-seen.ensures.prefix ∙ both done refl;
}
