-- How many atomic steps each call makes at most.
use Rattle.std.specs.Prelude.{◌≡◌, ℕ, suc, ◌≤◌, Bool, List, ◌++◌, length, Option, Result}
use Rattle.irp_core.specs.declared.ids.{FileId.{FileId}, IrpId.{IrpId}, IrpLife.{IrpLife}, Life.{Life}}
use Rattle.irp_core.specs.declared.status.NtStatus.{NtStatus}
use Rattle.irp_core.specs.declared.step.Made.{Made}
use Rattle.irp_core.specs.Runs.{Size}
use Rattle.csq_list.specs.declared.entry.{Peek.{Peek}, Place.{Place}}
use Rattle.csq_list.specs.declared.refusals.{InsertStatus.{InsertStatus}, UnknownFile.{UnknownFile}}
use Rattle.csq_words.specs.declared.views.{HistoryEntry.{HistoryEntry}, PassRecord.{PassRecord}}
use Rattle.csq_words.specs.Queue.{Limits}
use Rattle.csq_words.specs.History.{end_of}
use Rattle.csq_queue.specs.declared.refusals.{CancelRefused.{CancelRefused}, ReuseRefused.{ReuseRefused}}
use Rattle.csq_queue.specs.declared.tokens.InsertAnswer.{InsertAnswer}
use Rattle.csq_queue.specs.Calls.{Inserts, PutsBack, RemovesNext, RemovesOne, RunsRoutine, Reuses, MarksCancel, CompletesOne}
use Rattle.csq_queue.specs.Steps.{passed_over}

-- the pass made at most this many steps
abbrev pub MakesAtMost : ℕ → PassRecord → PassRecord → Type 0
MakesAtMost n old new = (newer : List Made) × (new.steps ≡ newer ++ old.steps) × (length newer ≤ n)

-- how many matches a removal passes over: those that stand before the one that it takes, or all if it takes none
abbrev pub passed : Peek → Option IrpLife → Limits → List HistoryEntry → ℕ
passed peek taken limits history = length (passed_over peek taken (end_of limits.first history).entries)

-- the steps of calls under the lock. A removal makes one for each match that it passes over, so at most one more than the list may hold. (A renewal is one step, in which the words of a request are exchanged one after the other)
pub record LockedCallsAreShort (limits : Limits) (history : List HistoryEntry) (p p' : PassRecord) : Type 0 where
  pub insert : (irp : IrpId) (file : FileId) (place : Place) (answer : Result (InsertAnswer IrpLife IrpLife) InsertStatus) → Inserts irp file place answer limits history p p' → MakesAtMost 3 p p'
  pub put_back : (i : IrpLife) (place : Place) (answer : Result (InsertAnswer IrpLife IrpLife) InsertStatus) → PutsBack i place answer limits history p p' → MakesAtMost 3 p p'
  pub remove_next : (peek : Peek) (taken : Option IrpLife) → RemovesNext peek taken limits history p p' → MakesAtMost (suc (passed peek taken limits history)) p p' × (passed peek taken limits history ≤ limits.limit)
  pub remove : (i : IrpLife) (taken : Option IrpLife) → RemovesOne i taken limits history p p' → MakesAtMost 2 p p'
  pub routine : (i : IrpLife) → RunsRoutine i limits history p p' → MakesAtMost 1 p p'
  pub reuse : (irp : IrpId) (answer : Result Life ReuseRefused) → Reuses irp answer limits history p p' → MakesAtMost 1 p p'

-- those of calls without it
pub record FreeCallsAreShort (size : Size) (p p' : PassRecord) : Type 0 where
  pub mark : (irp : IrpId) (life : Life) (answer : Result (Option IrpLife) CancelRefused) → MarksCancel irp life answer size p p' → MakesAtMost 2 p p'
  pub complete : (i : IrpLife) (status : NtStatus) → CompletesOne i status size p p' → MakesAtMost 1 p p'

-- each call makes a bounded number of steps
pub record CallsAreShort : Type 0 where
  pub locked : (limits : Limits) (history : List HistoryEntry) (p p' : PassRecord) → LockedCallsAreShort limits history p p'
  pub free : (size : Size) (p p' : PassRecord) → FreeCallsAreShort size p p'
