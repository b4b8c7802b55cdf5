-- What is said of what a driver does with an IRP that was in its queue.
use Rattle.std.specs.Prelude.{◌≡◌, ◌==◌, ◌&&◌, ◌||◌, nat_lt, not, if◌then◌else◌, Bool, List, Option, Some, None}
use Rattle.irp_core.specs.declared.ids.{IrpId.{IrpId}, IrpLife.{IrpLife}}
use Rattle.irp_core.specs.declared.status.{NtStatus.{NtStatus}, TheConstants.NtStatus.{CANCELLED, PENDING}}
use Rattle.irp_core.specs.Own.{holds_in, removed_in}
use Rattle.irp_core.specs.Steps.{number}
use Rattle.csq_list.specs.declared.entry.Entry.{Entry}
use Rattle.csq_list.specs.Searches.{is_listed}
use Rattle.csq_queue.specs.Calls.{CompletesOne}
use Rattle.csq_checked.specs.Calls.{MakesOwnCall}
use Rattle.csq_checked.specs.Causes.{cancelled_cause, complete_cause}
use Rattle.csq_checked.specs.Passes.{CheckedPassState, CheckedState, listed}
use Rattle.csq_checked.specs.declared.unlocked.CompleteRefused.{CompleteRefused}
use Rattle.csq_checked.specs.declared.unlocked.CompleteRefused.TheVariants as refused
use Rattle.csq_checked.specs.declared.judge.uses.UseVerdict.{UseVerdict, TheVariants.{Agrees, Listed, NotHeld, GotCancelled, NotFinal}}

-- a pass may complete what it holds as cancelled, and with another final status what it got by a removal
abbrev pub may_complete : CheckedPassState → IrpLife → NtStatus → Bool
may_complete p i status = nat_lt (number i) p.words.size.irps && holds_in p.pass.steps i && (status.0 == CANCELLED.0 || (removed_in p.pass.steps i && not (status.0 == PENDING.0)))

-- why it doesn't complete i with this status
abbrev pub refusal_of : CheckedPassState → IrpLife → NtStatus → Option CompleteRefused
refusal_of p i status = if status.0 == CANCELLED.0 then cancelled_cause p.words.size.irps p.pass.steps i else complete_cause p.words.size.irps p.pass.steps i status

-- of an IRP that the pass doesn't hold: whether it is in the queue
abbrev pub unheld_verdict : List Entry → IrpId → UseVerdict
unheld_verdict es i = if is_listed es i then Listed else NotHeld

-- of an IRP that isn't completed, by the cause
abbrev pub refusal_verdict : List Entry → IrpId → CompleteRefused → UseVerdict
refusal_verdict es i refused.UnknownIrp = unheld_verdict es i
refusal_verdict es i refused.NotHeld = unheld_verdict es i
refusal_verdict es i refused.NotRemoved = GotCancelled
refusal_verdict es i refused.NotFinal = NotFinal

-- of an IRP, by the cause why it isn't completed, if there is one
abbrev pub use_verdict : List Entry → IrpId → Option CompleteRefused → UseVerdict
use_verdict es i None = Agrees
use_verdict es i (Some cause) = refusal_verdict es i cause

-- what is said of a completion of i with this status, which p made if it agrees
pub record JudgesUse (i : IrpLife) (status : NtStatus) (verdict : UseVerdict) (q : CheckedState) (p p' : CheckedPassState) : Type 0 where
  pub said : verdict ≡ use_verdict (listed q) i.irp (refusal_of p i status)
  pub completed : verdict ≡ Agrees → MakesOwnCall (CompletesOne i status) p p'
  pub kept : ¬ (verdict ≡ Agrees) → p' ≡ p
