-- What a driver keeps of its script: the contracts of what makes its calls.
use Rattle.std.specs.Prelude.{◌≡◌, ℕ, ◌<◌, ◌≤◌, true, not, List, [], ◌∷◌, length, Option, None, slice_index_or}
use Rattle.irp_core.specs.declared.ids.{FileId.{FileId}, IrpId.{IrpId}, IrpLife.{IrpLife}}
use Rattle.irp_core.specs.declared.status.NtStatus.{NtStatus}
use Rattle.irp_core.specs.declared.step.Made.{Made}
use Rattle.irp_core.specs.declared.inside.Inside.TheVariants.{Nothing}
use Rattle.irp_core.specs.Words.{armed, flagged, was_armed}
use Rattle.irp_core.specs.Inside.{inside}
use Rattle.irp_core.specs.Owners.{owes, holds, listed, dones}
use Rattle.irp_core.specs.Completion.{removed}
use Rattle.irp_core.specs.Lives.{present_life}
use Rattle.irp_core.specs.MachineState.{MachineState, Agrees, size_of}
use Rattle.csq_words.specs.Plays.{status_recorded}
use Rattle.csq_list.specs.Listing.{Listing}
use Rattle.csq_words.specs.Queue.{Queued, QueueState, Limits, plain_listing, has_irp, has_entry}
use Rattle.csq_replay.specs.declared.script.call.{ScriptCall.{ScriptCall}, Reply.{Reply}}
use Rattle.csq_replay.specs.declared.script.driver.Driver.{Driver}
use Rattle.csq_replay.specs.Calls.{Script, script_pass, script_size, present_of, Calls, Does}

-- each entry is marked if its routine is gone
abbrev pub AreMarked : List Made → List Queued → Type 0
AreMarked E [] = Unit {0}
AreMarked E (e ∷ es) = (e.marked ≡ not (armed E e.irp)) × AreMarked E es

-- the queue of one thread says of each IRP what the run says, which begins in this life
pub record IsOfRun (first : ℕ) (E : List Made) (q : QueueState) : Type 0 where
  pub lives : (n : IrpId) → q.lives n ≡ present_life first E n
  pub used : (i : IrpLife) → has_irp q.used i ≡ was_armed E i
  pub entries : (i : IrpLife) → has_entry q.entries i ≡ listed E i
  pub flags : (i : IrpLife) → has_irp q.flags i ≡ flagged E i
  pub marks : AreMarked E q.entries

-- what a driver keeps: its machine, what its list means, the status of each IRP in its present life, and the file object that an insert last accepted it for
pub record Keeping : Type 0 where
  pub machine : MachineState
  pub listing : Listing
  pub statuses : List (Option NtStatus)
  pub files : List FileId

-- what a driver keeps, by what its list means
abbrev pub keeping : {L A : Type 0} → (L → Listing) → Driver L A → Keeping
keeping listing driver = record { machine = driver.machine; listing = listing driver.list; statuses = driver.statuses.items; files = driver.files.items }

-- so it keeps the script s
pub record Keeps (l : Limits) (kept : Keeping) (s : Script) : Type 0 where
  pub agrees : Agrees kept.machine s.run
  pub size : size_of kept.machine ≡ script_size l
  pub few : l.irps ≤ 1024
  pub listing : kept.listing ≡ plain_listing l s.queue
  pub queue : IsOfRun l.first s.run s.queue
  pub outside : inside s.run script_pass ≡ Nothing
  -- only what was completed has a status
  pub reported : (i : IrpLife) → dones s.run i ≡ [] → status_recorded i s.completed ≡ None
  pub statuses : (n : IrpId) → n.0 < l.irps → slice_index_or kept.statuses n.0 None ≡ status_recorded (present_of s n) s.completed
  pub statuses_size : length kept.statuses ≡ l.irps
  pub files : (n : IrpId) → n.0 < l.irps → slice_index_or kept.files n.0 (record { 0 = 0 }) ≡ s.queue.file_of n
  pub files_size : length kept.files ≡ l.irps

-- what the pass holds it got by removals, since what a cancel routine, an insert or a put-back gives it is completed in that call
abbrev pub HoldsRemoved : List Made → Type 0
HoldsRemoved E = (i : IrpLife) → holds E script_pass i ≡ true → removed E i ≡ true

-- so it stands at the script s, between two calls
abbrev pub StandsAt : Limits → Keeping → Script → Type 0
StandsAt l kept s = Keeps l kept s × HoldsRemoved s.run

-- it keeps some script
abbrev pub IsKeeping : Keeping → Type 0
IsKeeping kept = (l : Limits) × (s : Script) × Keeps l kept s

-- it stands at some script
abbrev pub IsStanding : Keeping → Type 0
IsStanding kept = (l : Limits) × (s : Script) × StandsAt l kept s

-- it keeps some script in which the pass owes IRP n
abbrev pub IsOwing : Keeping → IrpId → Type 0
IsOwing kept n = (l : Limits) × (s : Script) × Keeps l kept s × (n.0 < l.irps) × (owes s.run script_pass (present_of s n) ≡ true)

-- it keeps some script in which the pass holds IRP n
abbrev pub IsHolding : Keeping → IrpId → Type 0
IsHolding kept n = (l : Limits) × (s : Script) × Keeps l kept s × (n.0 < l.irps) × (holds s.run script_pass (present_of s n) ≡ true)

-- whatever script was kept, it went on by this call
abbrev pub Called : Keeping → ScriptCall → Reply → Keeping → Type 0
Called old c r new = (l : Limits) (s : Script) → Keeps l old s → (t : Script) × Calls l s c r t × Keeps l new t

-- the same, if the call may be made of others
abbrev pub Did : Keeping → ScriptCall → Reply → Keeping → Type 0
Did old c r new = (l : Limits) (s : Script) → Keeps l old s → (t : Script) × Does l s c r t × Keeps l new t

-- the same, of a driver that stood between two calls
abbrev pub DidNext : Keeping → ScriptCall → Reply → Keeping → Type 0
DidNext old c r new = (l : Limits) (s : Script) → StandsAt l old s → (t : Script) × Does l s c r t × Keeps l new t
