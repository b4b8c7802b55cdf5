-- What a judgement of what a driver does with an IRP answers to C.
use Rattle.std.specs.Prelude.{◌≡◌, ◌↔◌, ℕ, Option, Some, None, IsTrue}
use Rattle.irp_core.specs.declared.ids.IrpLife.{IrpLife}
use Rattle.irp_core.specs.declared.status.{NtStatus.{NtStatus}, TheConstants.NtStatus.{SUCCESS}}
use Rattle.csq_queue.specs.Calls.{RemovesOne}
use Rattle.csq_queue.specs.Owned.{HoldsRemoved}
use Rattle.csq_checked.specs.Calls.{MakesCall}
use Rattle.csq_checked.specs.Passes.{CheckedPassState, listed}
use Rattle.csq_checked.specs.Removes.{removed_by, unremoved_verdict}
use Rattle.csq_checked.specs.Uses.{JudgesUse, may_complete}
use Rattle.csq_checked.specs.declared.judge.remove.RemoveVerdict.{RemoveVerdict}
use Rattle.csq_checked.specs.declared.judge.remove.RemoveVerdict.TheVariants as removal
use Rattle.csq_checked.specs.declared.judge.uses.UseVerdict.{UseVerdict, TheVariants.{Agrees, Listed, NotHeld, GotCancelled, NotFinal}}
use Rattle.csq_c.specs.Bodies.{QueueBodyState}
use Rattle.csq_c.specs.Exports.{OnQueue}
use Rattle.csq_c.specs.Looks.{OnOpen}
use Rattle.csq_c.specs.declared.codes.Code.{Code, TheVariants.{Done}}

-- an open queue's verdict of a completion of i with this status, made if it agrees, as it does just if the pass may complete i so
abbrev pub JudgesCompletionOf : IrpLife → NtStatus → QueueBodyState → CheckedPassState → CheckedPassState → Code → Option UseVerdict → Type 0
JudgesCompletionOf i status body p p' code stored = OnOpen body code ((stored ≡ None) × (p' ≡ p))
    (λ q. (verdict : UseVerdict) × JudgesUse i status verdict q p p' × ((verdict ≡ Agrees) ↔ IsTrue (may_complete p i status)) × (code ≡ Done) × (stored ≡ Some verdict))

-- the same of another insert of i, which agrees just if the pass got i by a removal and holds it
abbrev pub JudgesInsertOf : IrpLife → QueueBodyState → CheckedPassState → CheckedPassState → Code → Option UseVerdict → Type 0
JudgesInsertOf i body p p' code stored = OnOpen body code ((stored ≡ None) × (p' ≡ p))
    (λ q. (verdict : UseVerdict) × JudgesUse i SUCCESS verdict q p p' × ((verdict ≡ Agrees) ↔ HoldsRemoved p.words.size.irps p.pass i) × (code ≡ Done) × (stored ≡ Some verdict))

-- an open queue's verdict of a removal of i, which agrees just if the queue's own gets it
abbrev pub JudgesRemovalOf : IrpLife → QueueBodyState → QueueBodyState → CheckedPassState → CheckedPassState → Code → Option RemoveVerdict → Type 0
JudgesRemovalOf i body body' p p' code stored = OnQueue body body' p p' code (stored ≡ None)
    (λ q q'. (verdict : RemoveVerdict) × MakesCall (RemovesOne i (removed_by verdict i)) q p q' p' × (¬ (verdict ≡ removal.Agrees) → verdict ≡ unremoved_verdict (listed q) i.irp) × (code ≡ Done) × (stored ≡ Some verdict))

-- the number of a verdict
abbrev pub use_number : UseVerdict → ℕ
use_number Agrees = 0
use_number Listed = 1
use_number NotHeld = 2
use_number GotCancelled = 3
use_number NotFinal = 4

abbrev pub remove_number : RemoveVerdict → ℕ
remove_number removal.Agrees = 0
remove_number removal.Claimed = 1
remove_number removal.NotListed = 2

-- if there is one
abbrev pub use_stored : Option UseVerdict → Option ℕ
use_stored None = None
use_stored (Some v) = Some (use_number v)

abbrev pub remove_stored : Option RemoveVerdict → Option ℕ
remove_stored None = None
remove_stored (Some v) = Some (remove_number v)
