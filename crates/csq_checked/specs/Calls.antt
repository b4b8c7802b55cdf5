-- What a call of a checked queue, or of its pass alone, answers and leaves: it is the open queue's call, or is refused for the first cause that holds.
use Rattle.std.specs.Prelude.{◌≡◌, ◌<◌, ◌↔◌, true, List, Option, Some, None, Result, Ok, Err, IfSome, OnOk, OnErr}
use Rattle.std.specs.Result.{result_err}
use Rattle.irp_core.specs.Runs.{Size}
use Rattle.irp_core.specs.Steps.{number}
use Rattle.irp_core.specs.declared.ids.{FileId.{FileId}, IrpLife.{IrpLife}, Life.{Life}}
use Rattle.irp_core.specs.declared.status.{NtStatus.{NtStatus}, TheConstants.NtStatus.{CANCELLED}}
use Rattle.csq_list.specs.declared.entry.Place.{Place}
use Rattle.csq_list.specs.declared.refusals.{InsertStatus.{InsertStatus}, UnknownFile.{UnknownFile}}
use Rattle.csq_words.specs.declared.views.{HistoryEntry.{HistoryEntry}, PassRecord.{PassRecord}}
use Rattle.csq_words.specs.History.{end_of}
use Rattle.csq_words.specs.Queue.{Limits, present_in}
use Rattle.csq_queue.specs.declared.refusals.ReuseRefused.{ReuseRefused as QueueRefused}
use Rattle.csq_queue.specs.declared.refusals.ReuseRefused.TheVariants as of_queue
use Rattle.csq_queue.specs.declared.tokens.InsertAnswer.{InsertAnswer}
use Rattle.csq_queue.specs.Calls.{PutsBack, RunsRoutine, ClosesFile, Reuses, CompletesOne}
use Rattle.csq_queue.specs.Opens.{OpenState, after_call}
use Rattle.csq_queue.specs.Owned.{Holds, HoldsRemoved, Owes}
use Rattle.csq_checked.specs.declared.calls.{PutBackRefused.{PutBackRefused}, CheckedReuseRefused.{CheckedReuseRefused, TheVariants.{UnknownIrp, Stale, NotCompleted, LivesSpent}}}
use Rattle.csq_checked.specs.declared.calls.PutBackRefused.TheVariants as back
use Rattle.csq_checked.specs.declared.unlocked.{CompleteRefused.{CompleteRefused}, RoutineRefused.{RoutineRefused}}
use Rattle.csq_checked.specs.Causes.{complete_cause, cancelled_cause, put_back_cause, is_of_place, routine_cause}
use Rattle.csq_checked.specs.Passes.{CheckedPassState, CheckedState}

-- the pass is of the same words, and has seen the queue's history and the execution, which alone are new of the queue
pub record IsAfter (q : CheckedState) (p : CheckedPassState) (q' : CheckedState) (p' : CheckedPassState) : Type 0 where
  pub seen : q' ≡ record q { queue = after_call p'.pass q.queue }
  pub words : p'.words ≡ p.words

-- queue and pass are as they were
abbrev pub AreKept : CheckedState → CheckedPassState → CheckedState → CheckedPassState → Type 0
AreKept q p q' p' = (q' ≡ q) × (p' ≡ p)

-- p made this call of the open queue, and nothing else is new
pub record MakesCall (call_is : Limits → List HistoryEntry → PassRecord → PassRecord → Type 0) (q : CheckedState) (p : CheckedPassState) (q' : CheckedState) (p' : CheckedPassState) : Type 0 where
  pub call : call_is q.queue.limits q.queue.queue.history p.pass p'.pass
  pub after : IsAfter q p q' p'

-- p made this call, which takes no queue
pub record MakesOwnCall (call_is : Size → PassRecord → PassRecord → Type 0) (p p' : CheckedPassState) : Type 0 where
  pub call : call_is p.words.size p.pass p'.pass
  pub words : p'.words ≡ p.words

-- what the open queue returned, if it was asked to put an IRP back
abbrev pub asked_back : Result (InsertAnswer IrpLife IrpLife) PutBackRefused → Option (Result (InsertAnswer IrpLife IrpLife) InsertStatus)
asked_back (Ok inserted) = Some (Ok inserted)
asked_back (Err (back.ByQueue cause)) = Some (Err cause)
asked_back (Err refused) = None

-- a put-back of i, which a removal got, or the first cause why not: the queue refuses it for its file object or for the list alone
pub record PutsBackRemoved (i : IrpLife) (place : Place) (answer : Result (InsertAnswer IrpLife IrpLife) PutBackRefused) (q : CheckedState) (p : CheckedPassState) (q' : CheckedState) (p' : CheckedPassState) : Type 0 where
  pub cause : asked_back answer ≡ None → result_err answer ≡ put_back_cause q.queue.limits.irps p.pass.steps i
  pub held : IfSome (asked_back answer) (λ a. HoldsRemoved q.queue.limits.irps p.pass i)
  pub of_place : (cause : InsertStatus) → answer ≡ Err (back.ByQueue cause) → is_of_place cause ≡ true
  pub call : IfSome (asked_back answer) (λ a. MakesCall (PutsBack i place a) q p q' p')
  pub kept : asked_back answer ≡ None → AreKept q p q' p'

-- the cancel routine of i, which the pass owes, or the first cause why not
pub record RunsOwedRoutine (i : IrpLife) (answer : Result (Unit {0}) RoutineRefused) (q : CheckedState) (p : CheckedPassState) (q' : CheckedState) (p' : CheckedPassState) : Type 0 where
  pub cause : result_err answer ≡ routine_cause q.queue.limits.irps p.pass.steps i
  pub owed : OnOk answer (Owes p.pass i)
  pub call : OnOk answer (MakesCall (RunsRoutine i) q p q' p')
  pub kept : OnErr answer (AreKept q p q' p')

-- a file object is closed if there is one; else nothing is new
pub record ClosesKnownFile (file : FileId) (answer : Result (Unit {0}) UnknownFile) (q : CheckedState) (p : CheckedPassState) (q' : CheckedState) (p' : CheckedPassState) : Type 0 where
  pub call : ClosesFile file answer q.queue.limits q.queue.queue.history p.pass p'.pass
  pub after : OnOk answer (IsAfter q p q' p')
  pub kept : OnErr answer (AreKept q p q' p')

-- i is its IRP's present life at the end of the history
abbrev pub IsPresentIn : OpenState → IrpLife → Type 0
IsPresentIn queue i = i ≡ present_in (end_of queue.limits.first queue.queue.history) i.irp

-- what the open queue answered, if it was asked
abbrev pub asked : Result Life CheckedReuseRefused → Option (Result Life QueueRefused)
asked (Ok life) = Some (Ok life)
asked (Err UnknownIrp) = None
asked (Err Stale) = None
asked (Err NotCompleted) = Some (Err of_queue.NotCompleted)
asked (Err LivesSpent) = Some (Err of_queue.LivesSpent)

-- a reuse of i, where it is a present life; else nothing is new
pub record ReusesPresentLife (i : IrpLife) (answer : Result Life CheckedReuseRefused) (q : CheckedState) (p : CheckedPassState) (q' : CheckedState) (p' : CheckedPassState) : Type 0 where
  pub unknown : (answer ≡ Err UnknownIrp) ↔ ¬ (number i < q.queue.limits.irps)
  pub stale : (answer ≡ Err Stale) ↔ ((number i < q.queue.limits.irps) × ¬ IsPresentIn q.queue i)
  pub call : IfSome (asked answer) (λ a. MakesCall (Reuses i.irp a) q p q' p')
  pub kept : asked answer ≡ None → AreKept q p q' p'

-- a completion of i, which a removal got, or the first cause why not
pub record CompletesRemoved (i : IrpLife) (status : NtStatus) (answer : Result (Unit {0}) CompleteRefused) (p p' : CheckedPassState) : Type 0 where
  pub cause : result_err answer ≡ complete_cause p.words.size.irps p.pass.steps i status
  pub held : OnOk answer (HoldsRemoved p.words.size.irps p.pass i)
  pub call : OnOk answer (MakesOwnCall (CompletesOne i status) p p')
  pub kept : OnErr answer (p' ≡ p)

-- a completion as cancelled of i, which the pass holds, or the first cause why not
pub record CompletesHeld (i : IrpLife) (answer : Result (Unit {0}) CompleteRefused) (p p' : CheckedPassState) : Type 0 where
  pub cause : result_err answer ≡ cancelled_cause p.words.size.irps p.pass.steps i
  pub held : OnOk answer (Holds p.words.size.irps p.pass i)
  pub call : OnOk answer (MakesOwnCall (CompletesOne i CANCELLED) p p')
  pub kept : OnErr answer (p' ≡ p)

-- the cancel routine of i, which the pass owes, and the completion of i as cancelled; or the first cause why not
pub record CancelsOwed (i : IrpLife) (answer : Result (Unit {0}) RoutineRefused) (q : CheckedState) (p : CheckedPassState) (q' : CheckedState) (p' : CheckedPassState) : Type 0 where
  pub between : CheckedPassState
  pub routine : RunsOwedRoutine i answer q p q' between
  pub completion : OnOk answer (CompletesHeld i (Ok tt) between p')
  pub kept : OnErr answer (AreKept q p q' p')
