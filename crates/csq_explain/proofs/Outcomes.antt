-- What came of a line, by what is reported for it.
use Rattle.std.proofs.Common.{◌≡◌, ℕ, List, ◌∷◌, ap, sym, subst}
use Rattle.csq_explain.proofs.Imports.{Made, Size, Skipped, Accepted, Stopped, Numbered, run_of, StepInCall, Follows, Explains, reason_of, in_call}
use Rattle.csq_replay.specs.declared.schedule.outcome.Stop.{Stop}
use Rattle.csq_replay.specs.Outcomes.{ComesTo}
use Rattle.csq_explain.specs.declared.execution.Execution.{Execution}
use Rattle.csq_explain.specs.declared.execution.Explained.TheVariants as explained
use Rattle.csq_explain.specs.declared.reasons.Reason.{Reason}

module _ {A : Type 0} (size : Size) (W : List Numbered) (n : ℕ) (line : List ℕ) (new : Execution A) where
  -- it was skipped, and the execution stays
  pub was_skipped : Explains size W n line explained.Skipped new → ComesTo size (run_of W) line Skipped × Follows size new W
  was_skipped (Skipped, comes, is, on) = (comes, on)
  was_skipped (Accepted m, comes, is, on) = absurd (cc is)
  was_skipped (Stopped stop, comes, is, on) = absurd (cc is)

  -- this step was made, and the execution goes on with it
  pub was_accepted : (step : StepInCall) → Explains size W n line (explained.Accepted step) new
      → ComesTo size (run_of W) line (Accepted step.made) × (step ≡ in_call (run_of W) step.made) × Follows size new (record { line = n; step = step.made } ∷ W)
  was_accepted step (Skipped, comes, is, on) = absurd (cc is)
  was_accepted step (Accepted m, comes, is, on) =
      let reported : step ≡ in_call (run_of W) m = cc is in
      let same : m ≡ step.made = sym (ap (λ (s : StepInCall). s.made) reported) in
      let P : Made → Type 0 = λ x. ComesTo size (run_of W) line (Accepted x) × (step ≡ in_call (run_of W) x) × Follows size new (record { line = n; step = x } ∷ W) in
      subst P same (comes, reported, on)
  was_accepted step (Stopped stop, comes, is, on) = absurd (cc is)

  -- it ends the handling for this reason, and the execution stays
  pub was_stopped : (reason : Reason) → Explains size W n line (explained.Stopped reason) new
      → ComesTo size (run_of W) line (Stopped reason.stop) × (reason ≡ reason_of size W reason.stop) × Follows size new W
  was_stopped reason (Skipped, comes, is, on) = absurd (cc is)
  was_stopped reason (Accepted m, comes, is, on) = absurd (cc is)
  was_stopped reason (Stopped stop, comes, is, on) =
      let reported : reason ≡ reason_of size W stop = cc is in
      let same : stop ≡ reason.stop = sym (ap (λ (r : Reason). r.stop) reported) in
      let P : Stop → Type 0 = λ x. ComesTo size (run_of W) line (Stopped x) × (reason ≡ reason_of size W x) × Follows size new W in
      subst P same (comes, reported, on)
