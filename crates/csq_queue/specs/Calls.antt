-- What each call answers and what its pass has seen and done then, one record a call: over the call and its answer, the limits of the queue and its history as the call found it (of a call without the lock the size alone), and the pass's record before the call and after it.
use Rattle.std.specs.Prelude.{◌≡◌, ◌⊎◌, ℕ, ◌<◌, ◌↔◌, true, false, List, [], ◌∷◌, Option, Some, None, Result, Err, IsOk, IfOk, IfErr, OnOk, OnErr, IfSome, Bool}
use Rattle.std.specs.Option.{is_some}
use Rattle.irp_core.specs.Runs.{Size}
use Rattle.irp_core.specs.Steps.{life_of}
use Rattle.irp_core.specs.Words.{flagged}
use Rattle.irp_core.specs.declared.ids.{FileId.{FileId}, IrpId.{IrpId}, IrpLife.{IrpLife}, Life.{Life}}
use Rattle.irp_core.specs.declared.status.NtStatus.{NtStatus}
use Rattle.irp_core.specs.declared.step.Kind.TheVariants.{Flag, Take, Done, Out as StepOut}
use Rattle.csq_list.specs.declared.entry.{Peek.{Peek}, Place.{Place}}
use Rattle.csq_list.specs.declared.refusals.{InsertStatus.{InsertStatus}, UnknownFile.{UnknownFile}}
use Rattle.csq_words.specs.declared.views.{HistoryEntry.{HistoryEntry}, Event.{Event, TheVariants.{CloseFile, Insert, RemoveNext, Remove, Out, PutBack}}, InsertReply.TheVariants.{Refused}, PassRecord.{PassRecord}, Prefix.{Prefix}}
use Rattle.csq_words.specs.Calls.{due_mark}
use Rattle.csq_words.specs.History.{end_of}
use Rattle.irp_core.specs.Own.{owes_in, holds_in, removed_in, held_list, owed_list}
use Rattle.csq_words.specs.Plays.{IsFlagOf, IsStatusOf, flag_read, status_read, shows_flagged, status_recorded}
use Rattle.csq_words.specs.Queue.{Limits, present_in, refusal, back_refusal}
use Rattle.csq_words.specs.Records.{saw, saw_prefix, prefix_of, with_step, with_completion}
use Rattle.csq_words.specs.Rule.{FindsUnset, SeesPrefix}
use Rattle.csq_queue.specs.declared.refusals.{CancelRefused.{CancelRefused}, ReuseRefused.{ReuseRefused}, UnknownIrp.{UnknownIrp}}
use Rattle.csq_queue.specs.declared.refusals.ReuseRefused.TheVariants as reuse
use Rattle.csq_queue.specs.declared.tokens.InsertAnswer.{InsertAnswer}
use Rattle.csq_queue.specs.Counts.{has_life}
use Rattle.csq_queue.specs.Inserts.{IsInsert, IsPutBack, given_by, given_in}
use Rattle.csq_queue.specs.Named.{named}
use Rattle.csq_queue.specs.Owned.{Holds, HoldsRemoved, Owes, EndsWithTake, MissedTheRoutine}
use Rattle.csq_queue.specs.Refusals.{reuse_events, IsReuseRefusal, IsCancelRefusal}
use Rattle.csq_queue.specs.Searches.{marked}
use Rattle.csq_queue.specs.Steps.{MakesSteps, insert_steps, put_back_steps, remove_next_steps, remove_steps, reuse_steps}
use Rattle.csq_queue.specs.Effects.{AddsEvents, IsNew, count_given}

-- the file object that i was accepted for, at the end of this history
abbrev pub file_at : Limits → List HistoryEntry → IrpLife → FileId
file_at limits history i = (end_of limits.first history).file_of i.irp

-- an insert: it queued the IRP, or found it cancelled and gave it back, which the pass holds then, or refused it for the first cause
pub record Inserts (irp : IrpId) (file : FileId) (place : Place) (answer : Result (InsertAnswer IrpLife IrpLife) InsertStatus) (limits : Limits) (history : List HistoryEntry) (p p' : PassRecord) : Type 0 where
  pub accepted : IfOk answer (λ inserted. (events : List Event) × IsInsert (present_in (end_of limits.first history) irp) file place inserted events × AddsEvents limits history p p' events)
  pub steps : MakesSteps (insert_steps answer (end_of limits.first p'.seen)) p p'
  pub new : IfSome (given_in answer) (IsNew limits p)
  pub token : IfOk answer (λ inserted. IfSome (given_by inserted) (Holds limits.irps p'))
  pub refused : IfErr answer (λ cause. AddsEvents limits history p p' (Insert irp file place (Refused cause) ∷ []))
  pub cause : IfErr answer (λ cause. refusal limits (end_of limits.first history) irp file ≡ Some cause)

-- a put-back of i, which the pass got by a removal, for the file object that it was accepted for: it queued i, which the pass then holds no longer, or found it cancelled, so that the pass holds it as cancelled, or refused it for the first cause, so that the pass holds it as before
pub record PutsBack (i : IrpLife) (place : Place) (answer : Result (InsertAnswer IrpLife IrpLife) InsertStatus) (limits : Limits) (history : List HistoryEntry) (p p' : PassRecord) : Type 0 where
  pub accepted : IfOk answer (λ inserted. (events : List Event) × IsPutBack i (file_at limits history i) place inserted events × AddsEvents limits history p p' events)
  pub steps : MakesSteps (put_back_steps answer (end_of limits.first p'.seen)) p p'
  pub token : IfOk answer (λ inserted. IfSome (given_by inserted) (Holds limits.irps p'))
  pub spent : OnOk answer (removed_in p'.steps i ≡ false)
  pub none_held : IfOk answer (λ inserted. given_by inserted ≡ None → has_life (held_list p'.steps) i.irp ≡ false)
  pub refused : IfErr answer (λ cause. AddsEvents limits history p p' (PutBack i (file_at limits history i) place (Refused cause) ∷ []))
  pub cause : IfErr answer (λ cause. back_refusal limits (end_of limits.first history) i (file_at limits history i) ≡ Some cause)
  pub kept : OnErr answer (HoldsRemoved limits.irps p' i)

-- a removal of the first match that no canceller has: the pass holds it then
pub record RemovesNext (peek : Peek) (taken : Option IrpLife) (limits : Limits) (history : List HistoryEntry) (p p' : PassRecord) : Type 0 where
  pub call : (marks : List IrpLife) × AddsEvents limits history p p' (RemoveNext peek taken ∷ marked marks)
  pub steps : MakesSteps (remove_next_steps peek taken (end_of limits.first history)) p p'
  pub new : IfSome taken (IsNew limits p)
  pub token : IfSome taken (HoldsRemoved limits.irps p')

-- a removal of i, in its life
pub record RemovesOne (i : IrpLife) (taken : Option IrpLife) (limits : Limits) (history : List HistoryEntry) (p p' : PassRecord) : Type 0 where
  pub irp : IfSome taken (λ got. got ≡ i)
  pub call : (marks : List IrpLife) × AddsEvents limits history p p' (Remove i (is_some taken) ∷ marked marks)
  pub steps : MakesSteps (remove_steps i taken (end_of limits.first history)) p p'
  pub new : IfSome taken (IsNew limits p)
  pub token : IfSome taken (HoldsRemoved limits.irps p')

-- a cancel routine takes out i: the pass holds i then as cancelled, and owes the IRP in no life
pub record RunsRoutine (i : IrpLife) (limits : Limits) (history : List HistoryEntry) (p p' : PassRecord) : Type 0 where
  pub call : AddsEvents limits history p p' (Out i ∷ due_mark i (end_of limits.first history))
  pub step : p' ≡ record (with_step (StepOut i) 0 p) { seen = p'.seen; mine = p'.mine; trace = p'.trace }
  pub token : Holds limits.irps p' i
  pub cancelled : removed_in p'.steps i ≡ false
  pub none_owed : has_life (owed_list p'.steps) i.irp ≡ false

-- a file object is closed for good, if there is one
pub record ClosesFile (file : FileId) (answer : Result (Unit {0}) UnknownFile) (limits : Limits) (history : List HistoryEntry) (p p' : PassRecord) : Type 0 where
  pub known : IsOk answer ↔ (file.0 < limits.files)
  pub call : OnOk answer (AddsEvents limits history p p' (CloseFile file ∷ []))
  pub steps : OnOk answer (MakesSteps [] p p')
  pub unknown : OnErr answer (p' ≡ p)

-- the next life of a completed IRP begins, or the cause why not
pub record Reuses (irp : IrpId) (answer : Result Life ReuseRefused) (limits : Limits) (history : List HistoryEntry) (p p' : PassRecord) : Type 0 where
  pub known : (answer ≡ Err reuse.UnknownIrp) ↔ ¬ (irp.0 < limits.irps)
  pub unknown : answer ≡ Err reuse.UnknownIrp → p' ≡ p
  pub call : irp.0 < limits.irps → AddsEvents limits history p p' (reuse_events irp answer)
  pub steps : MakesSteps (reuse_steps irp answer) p p'
  pub refused : irp.0 < limits.irps → IfErr answer (IsReuseRefusal (present_in (end_of limits.first p'.seen) irp) p p')

-- a cancel up to its exchange, without the lock: the flag is set in the life named, and if the routine was there, the pass owes the IRP
pub record MarksCancel (irp : IrpId) (life : Life) (answer : Result (Option IrpLife) CancelRefused) (size : Size) (p p' : PassRecord) : Type 0 where
  pub known : IsOk answer → irp.0 < size.irps
  pub step : IfOk answer (λ claim. (flag : ℕ) × (p' ≡ saw p'.trace (with_step (Take (named irp life)) (count_given claim) (with_step (Flag (named irp life)) flag p)))
      × EndsWithTake size (named irp life) flag (count_given claim) p p')
  pub claimed : IfOk answer (λ claim. IfSome claim (λ i. (i ≡ named irp life) × Owes p' i))
  pub missed : IfOk answer (λ claim. claim ≡ None → MissedTheRoutine (named irp life) p')
  pub refused : IfErr answer (IsCancelRefusal size (named irp life) p p')

-- the pass completed i with this status, which nobody had before, and holds the IRP in no life
pub record CompletesOne (i : IrpLife) (status : NtStatus) (size : Size) (p p' : PassRecord) : Type 0 where
  pub step : p' ≡ saw p'.trace (with_completion i status (with_step (Done i) 0 p))
  pub unset : FindsUnset size i p p'
  pub none_held : has_life (held_list p'.steps) i.irp ≡ false

-- a load of an IRP's Cancel flag, and the life that it stands for
pub record ReadsFlag (irp : IrpId) (answer : Result (Life × Bool) UnknownIrp) (size : Size) (p p' : PassRecord) : Type 0 where
  pub known : IsOk answer ↔ (irp.0 < size.irps)
  pub same : p' ≡ saw p'.trace p
  pub unknown : OnErr answer (p' ≡ p)
  pub found : IfOk answer (λ read. (w : ℕ) × (read ≡ flag_read w) × IsFlagOf size irp p p' w)
  pub mine : IfOk answer (λ read. (i : IrpLife) → i.irp ≡ irp → flagged p.steps i ≡ true → (read ≡ (i.life, true)) ⊎ (life_of i < read.0.0))
  pub seen : IfOk answer (λ read. (i : IrpLife) → i.irp ≡ irp → shows_flagged i p.seen ≡ true → (read ≡ (i.life, true)) ⊎ (life_of i < read.0.0))

-- a load of its status
pub record ReadsStatus (irp : IrpId) (answer : Result (Life × Option NtStatus) UnknownIrp) (size : Size) (p p' : PassRecord) : Type 0 where
  pub known : IsOk answer ↔ (irp.0 < size.irps)
  pub same : p' ≡ saw p'.trace p
  pub unknown : OnErr answer (p' ≡ p)
  pub found : IfOk answer (λ read. (w : ℕ) × (read ≡ status_read w) × IsStatusOf size irp p p' w)
  pub mine : IfOk answer (λ read. (i : IrpLife) (status : NtStatus) → i.irp ≡ irp → status_recorded i p.completed ≡ Some status → (read ≡ (i.life, Some status)) ⊎ (life_of i < read.0.0))
  pub owed : IfOk answer (λ read. (i : IrpLife) → i.irp ≡ irp → owes_in p.steps i ≡ true → read ≡ (i.life, None))
  pub held : IfOk answer (λ read. (i : IrpLife) → i.irp ≡ irp → holds_in p.steps i ≡ true → read ≡ (i.life, None))

-- the pass learned what another had seen: it has then seen a history and an execution that begin with this and with what it had seen itself, and nothing else is new
pub record Learns (s : Prefix) (size : Size) (p p' : PassRecord) : Type 0 where
  pub same : p' ≡ saw_prefix (prefix_of p') p
  pub agreed : SeesPrefix size s p p'
