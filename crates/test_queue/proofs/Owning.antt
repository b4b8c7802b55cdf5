-- Two passes that have seen one execution.
use Rattle.std.proofs.Common.{◌≡◌, ◌≢◌, ◌||◌, true, false, sym, ap, ◌∙◌}
use Rattle.std.proofs.lemmas.Bool.{false_from_ne_true}
use Rattle.irp_core.specs.declared.ids.IrpLife.{IrpLife}
use Rattle.irp_core.specs.Owners.{owes, holds}
use Rattle.irp_core.specs.Runs.{Size}
use Rattle.irp_core.proofs.Owning.{owner_one}
use Rattle.csq_words.specs.Traces.{steps_in}
use Rattle.csq_words.specs.declared.views.PassRecord.{PassRecord}
use Rattle.irp_core.specs.Own.{owes_in, holds_in}
use Rattle.irp_core.proofs.Own.{owes_in-own, holds_in-own}
use Rattle.csq_queue.specs.Effects.{SeesRun}
use Rattle.test_queue.specs.Conclusions.{has}

-- what a pass owes or holds by its own steps it owes or holds in the execution that it has seen
has_it : (size : Size) (r : PassRecord) → SeesRun size r → (i : IrpLife) → has r i ≡ (owes (steps_in r.trace) r.pass i || holds (steps_in r.trace) r.pass i)
has_it size r sees i =
    let steps = sees.agrees.pass_is.steps_is in
    λ k. (ap (λ s. owes_in s i) steps ∙ owes_in-own r.pass i (steps_in r.trace)) k || (ap (λ s. holds_in s i) steps ∙ holds_in-own r.pass i (steps_in r.trace)) k

-- so of two passes that have seen the same one, one has an IRP at most
pub one_has : (size : Size) (r s : PassRecord) → SeesRun size r → SeesRun size s → (steps_in r.trace) ≡ (steps_in s.trace) → r.pass ≢ s.pass → (i : IrpLife) → has r i ≡ true → has s i ≡ false
one_has size r s sees sees' same apart i h = false_from_ne_true (has s i) (λ g. apart (owner_one size (steps_in r.trace) sees.agrees.history_is.is_run i r.pass s.pass (sym (has_it size r sees i) ∙ h)
    (ap (λ run. owes run s.pass i || holds run s.pass i) same ∙ (sym (has_it size s sees' i) ∙ g))))
