-- What the calls of a script do: steps of one pass beside events of the queue of one thread.
use Rattle.std.specs.Prelude.{◌≡◌, ◌≢◌, ℕ, ◌+◌, ◌<◌, ◌≤◌, true, false, List, [], ◌∷◌, Option, Some, None, if◌then◌else◌}
use Rattle.irp_core.specs.declared.ids.{PassId.{PassId}, FileId.{FileId}, IrpId.{IrpId}, Life.{Life}, IrpLife.{IrpLife}}
use Rattle.irp_core.specs.declared.status.{NtStatus.{NtStatus}, TheConstants.NtStatus.{PENDING, CANCELLED}}
use Rattle.irp_core.specs.declared.step.{Kind.{Kind}, Made.{Made}}
use Rattle.irp_core.specs.declared.step.Kind.TheVariants as step
use Rattle.irp_core.specs.Steps.{number}
use Rattle.irp_core.specs.Lives.{last_life}
use Rattle.irp_core.specs.Words.{flagged, found_by}
use Rattle.irp_core.specs.Owners.{owes, holds}
use Rattle.irp_core.specs.Runs.{Size}
use Rattle.csq_list.specs.declared.entry.{Place.{Place}, Peek.{Peek, TheVariants.{File}}}
use Rattle.csq_list.specs.declared.refusals.InsertStatus.{InsertStatus}
use Rattle.csq_list.specs.Searches.{matches}
use Rattle.csq_words.specs.declared.views.{Completion.{Completion}, Event.{Event}}
use Rattle.csq_words.specs.declared.views.InsertReply.TheVariants as insert
use Rattle.csq_words.specs.declared.views.Event.TheVariants as event
use Rattle.csq_words.specs.Queue.{Queued, QueueState, Limits, empty_queue, present_in, has_marked, has_unmarked, after_event}
use Rattle.csq_words.specs.History.{MayCome}
use Rattle.csq_words.specs.Plays.{status_recorded}
use Rattle.csq_replay.specs.declared.script.call.{ScriptCall.{ScriptCall, TheVariants.{Insert, Next, Remove, Mark, Routine, Cancel, Complete, Close, Cleanup, Flag, Status, Reuse, PutBack}}, CallRefused.TheVariants.{UnknownIrp, UnknownFile, NoClaim, NotHeld, StatusPending, Stale, NotCompleted, LivesSpent}, Reply.{Reply, TheVariants.{Pending, Cancelled, InsertRefused, Removed, NoIrp, Claimed, Unclaimed, Completed, CancelAnswered, Closed, Cleaned, Unset, Begun, Refused}}}
use Rattle.csq_replay.specs.declared.script.call.Reply.TheVariants as reply

-- the one pass of a script
abbrev pub script_pass : PassId
script_pass = record { 0 = 1 }

-- so many IRPs, one pass, and the life in which all IRPs begin
abbrev pub script_size : Limits → Size
script_size l = record { irps = l.irps; passes = 1; first = l.first }

-- the steps of the pass, the queue of one thread, and what was completed with which status, the newest first
pub record Script : Type 0 where
  pub run : List Made
  pub queue : QueueState
  pub completed : List Completion

-- before the first call
abbrev pub new_script : Limits → Script
new_script l = record { run = []; queue = empty_queue l.first; completed = [] }

-- IRP n in its present life
abbrev pub present_of : Script → IrpId → IrpLife
present_of s n = present_in s.queue n

-- i names the present life of its IRP
abbrev pub IsPresentOf : Script → IrpLife → Type 0
IsPresentOf s i = present_of s i.irp ≡ i

-- the present life of IRP n, and the one after it
abbrev pub life_now : Script → IrpId → Life
life_now s n = record { 0 = s.queue.lives n }

abbrev pub life_after : Script → IrpId → Life
life_after s n = record { 0 = s.queue.lives n + 1 }

-- E followed by a step of the pass, with the value that it finds
abbrev pub next_step : List Made → Kind → List Made
next_step E k = record { pass = script_pass; kind = k; found = found_by E k } ∷ E

-- E followed by these steps, one after the other
abbrev pub after_steps : List Kind → List Made → List Made
after_steps [] E = E
after_steps (k ∷ ks) E = after_steps ks (next_step E k)

-- the script after steps and an event
abbrev pub doing : List Kind → Event → Script → Script
doing ks e s = record s { run = after_steps ks s.run; queue = after_event s.queue e }

-- the script after the completion of an IRP
abbrev pub completing : IrpLife → NtStatus → Script → Script
completing i status s = record s { run = next_step s.run (step.Done i); completed = record { irp = i; status = status } ∷ s.completed }

-- a removal of the next match disarms each match until one isn't marked. If none is left, it ends
abbrev pub removal_steps : Peek → List Queued → List Kind
removal_steps k [] = step.End ∷ []
removal_steps k (e ∷ es) = if matches k e.file then step.Disarm e.irp ∷ (if e.marked then removal_steps k es else []) else removal_steps k es

-- a removal of i disarms it where it is listed, and ends where it is marked or not listed
abbrev pub named_removal_steps : IrpLife → List Queued → List Kind
named_removal_steps i es = if has_unmarked es i then step.Disarm i ∷ [] else (if has_marked es i then step.Disarm i ∷ step.End ∷ [] else step.End ∷ [])

-- what a removal answers that takes this IRP, or none
abbrev pub removal_reply : Option IrpLife → Reply
removal_reply (Some i) = Removed i.irp
removal_reply None = NoIrp

abbrev pub status_reply : Option NtStatus → Reply
status_reply (Some status) = reply.Status status
status_reply None = Unset

-- the IRP that a call names, an insert's aside
abbrev pub irp_of : ScriptCall → Option IrpId
irp_of (Remove i) = Some i.irp
irp_of (Mark i) = Some i.irp
irp_of (Routine n) = Some n
irp_of (Cancel i) = Some i.irp
irp_of (Complete n status) = Some n
irp_of (Flag n) = Some n
irp_of (Status n) = Some n
irp_of (Reuse n) = Some n
irp_of (PutBack n place) = Some n
irp_of _ = None

-- the IRP whose token a call takes
abbrev pub token_of : ScriptCall → Option IrpId
token_of (Complete n status) = Some n
token_of (PutBack n place) = Some n
token_of _ = None

-- the life that a call is to cancel
abbrev pub cancelled_life : ScriptCall → Option IrpLife
cancelled_life (Mark i) = Some i
cancelled_life (Cancel i) = Some i
cancelled_life _ = None

-- the file object that a call closes
abbrev pub file_of : ScriptCall → Option FileId
file_of (Close f) = Some f
file_of (Cleanup f) = Some f
file_of _ = None

-- the script after a mark: the Take found the routine, or didn't
abbrev pub after_mark : IrpLife → Script → Script
after_mark i s = doing (step.Flag i ∷ step.Take i ∷ []) (event.FlagSeen i) s

-- the script after the cancel routine of IRP n, and its completion
abbrev pub after_routine : IrpId → Script → Script
after_routine n s = completing (present_of s n) CANCELLED (doing (step.Out (present_of s n) ∷ []) (event.Out (present_of s n)) s)

-- the script after a reuse
abbrev pub after_reuse : IrpId → Script → Script
after_reuse n s = doing (step.Renew (present_of s n) ∷ []) (event.Reuse n (life_after s n)) s

-- a call that isn't made of others, in a script that did s before: what it answers, and the script after it
pub data Calls (l : Limits) (s : Script) : ScriptCall → Reply → Script → Type 0 where
  refuses_insert : (n : IrpId) (f : FileId) (place : Place) (cause : InsertStatus) → MayCome l s.queue (event.Insert n f place (insert.Refused cause))
      → Calls l s (Insert n f place) (InsertRefused cause) s
  lists : (n : IrpId) (f : FileId) (place : Place) → MayCome l s.queue (event.Insert n f place insert.Pending)
      → Calls l s (Insert n f place) Pending (doing (step.Arm (present_of s n) ∷ step.Test (present_of s n) ∷ []) (event.Insert n f place insert.Pending) s)
  cancels_insert : (n : IrpId) (f : FileId) (place : Place) → MayCome l s.queue (event.Insert n f place insert.Cancelled)
      → Calls l s (Insert n f place) Cancelled
      (completing (present_of s n) CANCELLED
      (doing (step.Arm (present_of s n) ∷ step.Test (present_of s n) ∷ step.Disarm (present_of s n) ∷ []) (event.Insert n f place insert.Cancelled) s))
  removes_next : (k : Peek) (got : Option IrpLife) → MayCome l s.queue (event.RemoveNext k got)
      → Calls l s (Next k) (removal_reply got) (doing (removal_steps k s.queue.entries) (event.RemoveNext k got) s)
  removes : (i : IrpLife) → number i < l.irps → MayCome l s.queue (event.Remove i true)
      → Calls l s (Remove i) (Removed i.irp) (doing (named_removal_steps i s.queue.entries) (event.Remove i true) s)
  removes_none : (i : IrpLife) → number i < l.irps → MayCome l s.queue (event.Remove i false)
      → Calls l s (Remove i) NoIrp (doing (named_removal_steps i s.queue.entries) (event.Remove i false) s)
  claims : (i : IrpLife) → number i < l.irps → IsPresentOf s i → found_by s.run (step.Take i) ≡ 1 → MayCome l s.queue (event.Mark i)
      → Calls l s (Mark i) Claimed (doing [] (event.Mark i) (after_mark i s))
  claims_none : (i : IrpLife) → number i < l.irps → IsPresentOf s i → found_by s.run (step.Take i) ≡ 0
      → Calls l s (Mark i) Unclaimed (after_mark i s)
  is_stale : (c : ScriptCall) (i : IrpLife) → cancelled_life c ≡ Some i → number i < l.irps → ¬ IsPresentOf s i → Calls l s c (Refused (Stale (life_now s i.irp))) s
  runs_routine : (n : IrpId) → n.0 < l.irps → owes s.run script_pass (present_of s n) ≡ true → MayCome l s.queue (event.Out (present_of s n))
      → Calls l s (Routine n) (Completed CANCELLED) (after_routine n s)
  has_no_claim : (n : IrpId) → n.0 < l.irps → owes s.run script_pass (present_of s n) ≡ false → Calls l s (Routine n) (Refused NoClaim) s
  completes : (n : IrpId) (status : NtStatus) → n.0 < l.irps → holds s.run script_pass (present_of s n) ≡ true → status ≢ PENDING
      → Calls l s (Complete n status) (Completed status) (completing (present_of s n) status s)
  holds_none : (c : ScriptCall) (n : IrpId) → token_of c ≡ Some n → n.0 < l.irps → holds s.run script_pass (present_of s n) ≡ false → Calls l s c (Refused NotHeld) s
  refuses_pending : (n : IrpId) → n.0 < l.irps → holds s.run script_pass (present_of s n) ≡ true → Calls l s (Complete n PENDING) (Refused StatusPending) s
  refuses_put_back : (n : IrpId) (place : Place) (cause : InsertStatus) → n.0 < l.irps → holds s.run script_pass (present_of s n) ≡ true
      → MayCome l s.queue (event.PutBack (present_of s n) (s.queue.file_of n) place (insert.Refused cause)) → Calls l s (PutBack n place) (InsertRefused cause) s
  puts_back : (n : IrpId) (place : Place) → n.0 < l.irps → holds s.run script_pass (present_of s n) ≡ true → MayCome l s.queue (event.PutBack (present_of s n) (s.queue.file_of n) place insert.Pending)
      → Calls l s (PutBack n place) Pending (doing (step.Rearm (present_of s n) ∷ step.Test (present_of s n) ∷ []) (event.PutBack (present_of s n) (s.queue.file_of n) place insert.Pending) s)
  cancels_put_back : (n : IrpId) (place : Place) → n.0 < l.irps → holds s.run script_pass (present_of s n) ≡ true → MayCome l s.queue (event.PutBack (present_of s n) (s.queue.file_of n) place insert.Cancelled)
      → Calls l s (PutBack n place) Cancelled
      (completing (present_of s n) CANCELLED
      (doing (step.Rearm (present_of s n) ∷ step.Test (present_of s n) ∷ step.Disarm (present_of s n) ∷ []) (event.PutBack (present_of s n) (s.queue.file_of n) place insert.Cancelled) s))
  closes : (f : FileId) → MayCome l s.queue (event.CloseFile f) → Calls l s (Close f) Closed (doing [] (event.CloseFile f) s)
  reports_flag : (n : IrpId) → n.0 < l.irps → Calls l s (Flag n) (reply.Flag (flagged s.run (present_of s n))) s
  reports_status : (n : IrpId) → n.0 < l.irps → Calls l s (Status n) (status_reply (status_recorded (present_of s n) s.completed)) s
  reuses : (n : IrpId) (status : NtStatus) → n.0 < l.irps → status_recorded (present_of s n) s.completed ≡ Some status → s.queue.lives n < last_life
      → MayCome l s.queue (event.Reuse n (life_after s n)) → Calls l s (Reuse n) (Begun (life_after s n)) (after_reuse n s)
  not_completed : (n : IrpId) → n.0 < l.irps → status_recorded (present_of s n) s.completed ≡ None → Calls l s (Reuse n) (Refused NotCompleted) s
  lives_spent : (n : IrpId) (status : NtStatus) → n.0 < l.irps → status_recorded (present_of s n) s.completed ≡ Some status → last_life ≤ s.queue.lives n
      → Calls l s (Reuse n) (Refused LivesSpent) s
  knows_no_irp : (c : ScriptCall) (n : IrpId) → irp_of c ≡ Some n → l.irps ≤ n.0 → Calls l s c (Refused UnknownIrp) s
  knows_no_file : (c : ScriptCall) (f : FileId) → file_of c ≡ Some f → l.files ≤ f.0 → Calls l s c (Refused UnknownFile) s

-- removals for a file object, with the completion of each IRP, until none is answered: how many there were
pub data Cleans (l : Limits) (f : FileId) : Script → ℕ → Script → Type 0 where
  none_left : (s t : Script) → Calls l s (Next (File f)) NoIrp t → Cleans l f s 0 t
  one_more : (i : IrpId) (s t u v : Script) (n : ℕ) → Calls l s (Next (File f)) (Removed i) t → Calls l t (Complete i CANCELLED) (Completed CANCELLED) u
      → Cleans l f u n v → Cleans l f s (n + 1) v

-- a call, which may be made of others: a cancel is a mark and, with its claim, the cancel routine; a cleanup closes and cleans
pub data Does (l : Limits) (s : Script) : ScriptCall → Reply → Script → Type 0 where
  calls : (c : ScriptCall) (r : Reply) (t : Script) → Calls l s c r t → Does l s c r t
  cancel_claimed : (i : IrpLife) (t u : Script) → Calls l s (Mark i) Claimed t → Calls l t (Routine i.irp) (Completed CANCELLED) u → Does l s (Cancel i) (CancelAnswered true) u
  cancel_unclaimed : (i : IrpLife) (t : Script) → Calls l s (Mark i) Unclaimed t → Does l s (Cancel i) (CancelAnswered false) t
  cleaned : (f : FileId) (t u : Script) (n : ℕ) → Calls l s (Close f) Closed t → Cleans l f t n u → Does l s (Cleanup f) (Cleaned n) u
