-- A reuse of an IRP that is known to be completed.
use Rattle.std.proofs.Common.{◌≡◌, ◌≢◌, ℕ, ◌<◌, ◌≤◌, ◌||◌, Bool, true, false, List, [], Some, Ok, Err, Result, Option, refl, sym, ap, ◌∙◌, arith}
use Rattle.std.specs.Prelude.{IfOk, IfErr, OnErr}
use Rattle.std.proofs.lemmas.Bool.{or_right}
use Rattle.irp_core.specs.Steps.{life_of}
use Rattle.irp_core.specs.declared.ids.IrpLife.{IrpLife}
use Rattle.irp_core.specs.Completion.{removed}
use Rattle.irp_core.specs.Words.{flagged, was_armed}
use Rattle.irp_core.specs.Lives.{present}
use Rattle.irp_core.specs.Runs.{Size}
use Rattle.irp_core.specs.declared.ids.IrpId.{IrpId}
use Rattle.irp_core.specs.declared.ids.Life.{Life}
use Rattle.irp_core.specs.declared.status.NtStatus.{NtStatus}
use Rattle.irp_core.proofs.Names.{same_irp-refl}
use Rattle.irp_core.proofs.Lives.{used_begun}
use Rattle.csq_words.proofs.Traced.{steps_extended}
use Rattle.csq_words.specs.Traces.{steps_in}
use Rattle.csq_words.specs.declared.views.PassRecord.{PassRecord}
use Rattle.csq_words.specs.declared.views.Tick.{Tick}
use Rattle.csq_words.specs.Queue.{present_in}
use Rattle.csq_words.specs.History.{end_of, IsExtendedBy}
use Rattle.csq_words.specs.Plays.{IsStatusOf, status_read}
use Rattle.csq_words.specs.Rule.{FindsUnset, is_done, SaysStatus, stands_for}
use Rattle.csq_words.specs.Words.{status_life_in, status_in}
use Rattle.csq_words.proofs.Decoding.{status_in-unset}
use Rattle.csq_words.proofs.Keeping.{none_is}
use Rattle.csq_words.proofs.Facts.{off, done_stays, done_over}
use Rattle.csq_words.proofs.Named.{irp_eq}
use Rattle.csq_queue.specs.Effects.{SeesRun}
use Rattle.csq_queue.specs.Refusals.{IsReuseRefusal}
use Rattle.csq_queue.specs.declared.refusals.UnknownIrp.{UnknownIrp as UnknownIrpError}
use Rattle.csq_queue.specs.declared.refusals.ReuseRefused.{ReuseRefused}
use Rattle.csq_queue.specs.declared.refusals.ReuseRefused.TheVariants.{UnknownIrp, NotCompleted, LivesSpent}
use Rattle.test_queue.specs.Conclusions.{IsLater}

-- a life that the pass has seen completed isn't the one of which a reuse says that it isn't
pub reuse_later : (size : Size) (i : IrpLife) (old new : PassRecord) (answer : Result Life ReuseRefused) → is_done (steps_in old.trace) i ≡ true → IsExtendedBy old.trace new.trace → SeesRun size new
    → IfErr answer (IsReuseRefusal (present_in (end_of size.first new.seen) i.irp) old new) → IsLater size.first i new answer
reuse_later size i old new answer done follows sees refused e = go answer e refused
  where
    here : IrpLife
    here = present_in (end_of size.first new.seen) i.irp

    begun : life_of i ≤ (end_of size.first new.seen).lives i.irp
    begun =
        let now = done_stays i (steps_in old.trace) (steps_in new.trace) (steps_extended follows) done in
        let over = done_over size (steps_in new.trace) sees.agrees.history_is.is_run i now in
        let b = used_begun size (steps_in new.trace) sees.agrees.history_is.is_run i (or_right (flagged (steps_in new.trace) i) (was_armed (steps_in new.trace) i) over.0) in
        let lives = sees.agrees.history_is.lives_are i.irp in
        omega (arith, b.1, lives)

    go : (answer : Result Life ReuseRefused) → answer ≡ Err NotCompleted → IfErr answer (IsReuseRefusal here old new) → life_of i < (end_of size.first new.seen).lives i.irp
    go (Err NotCompleted) e h =
        let apart : life_of i ≢ life_of here = λ same. let is : i ≡ here = irp_eq i here refl same in
        off (sym h.0 ∙ (ap (is_done (steps_in new.trace)) (sym is) ∙ done_stays i (steps_in old.trace) (steps_in new.trace) (steps_extended follows) done)) in
        let b = begun in
        omega (arith, b, apart)
    go (Err UnknownIrp) e h = absurd h
    go (Err LivesSpent) e h = absurd (cc e)
    go (Ok life) e h = absurd (cc e)

-- a status that is read as set is of a life that was completed in what the pass has then seen
pub read_done : (size : Size) (n : IrpId) (old new : PassRecord) (w : ℕ) (status : NtStatus) → IsStatusOf size n old new w → status_in w ≡ Some status
    → (i : IrpLife) × (i.irp ≡ n) × (life_of i ≡ status_life_in w) × (is_done (steps_in new.trace) i ≡ true)
read_done size n old new w status h set =
    let i = stands_for h.renewed (present size.first (steps_in new.trace) n) in
    let said = says (life_of i) (is_done (steps_in new.trace) i) (removed (steps_in new.trace) i) h.status_is in
    (i, named h.renewed, sym said.0, said.1)
  where
    named : (b : Bool) → (stands_for b (present size.first (steps_in new.trace) n)).irp ≡ n
    named true = refl
    named false = refl

    says : (life : ℕ) (d b : Bool) → SaysStatus w life d b → (status_life_in w ≡ life) × (d ≡ true)
    says life false b e = none_is status (sym (ap status_in e ∙ status_in-unset life) ∙ set)
    says life true b e = (e.0, refl)

-- what was completed just now is completed in what the pass has seen
pub completed_now : (size : Size) (i : IrpLife) (old new : PassRecord) → FindsUnset size i old new → is_done (steps_in new.trace) i ≡ true
completed_now size i old new f = ap (λ (trace : List Tick). is_done (steps_in trace) i) f.last.trace_is ∙ ap (λ b. b || is_done (steps_in f.last.before) i) (same_irp-refl i)

-- a read goes on from what the pass had seen
pub read_follows : (size : Size) (n : IrpId) (old new : PassRecord) (answer : Result (Life × Option NtStatus) UnknownIrpError)
    → IfOk answer (λ read. (w : ℕ) × (read ≡ status_read w) × IsStatusOf size n old new w) → OnErr answer (new ≡ old) → IsExtendedBy old.trace new.trace
read_follows size n old new (Ok read) h e = h.2.sees.follows
read_follows size n old new (Err cause) h e = ([], ap (λ (r : PassRecord). r.trace) e)
