-- A pass that knows what it holds and owes, and a queue with its words.
use Rattle.std.specs.Prelude.{◌≡◌, ℕ, suc, ◌+◌, ◌-◌, ◌<◌, List, length, Option, Some, None, slice_set}
use Rattle.irp_core.specs.declared.ids.Life.{Life}
use Rattle.csq_list.specs.declared.entry.Entry.{Entry}
use Rattle.csq_words.specs.declared.views.PassRecord.{PassRecord}
use Rattle.csq_words.specs.Records.{new_pass}
use Rattle.csq_words.specs.Seats.{WordsState}
use Rattle.csq_queue.specs.Looks.{present_listing}
use Rattle.csq_queue.specs.Named.{pass_numbered}
use Rattle.csq_queue.specs.Opens.{OpenState, OpenPassState, OpenRackState, IsQueueOn, IsPassOn, IsRackOn}
use Rattle.csq_queue.specs.Rests.{HoldsNothing}
use Rattle.csq_checked.specs.declared.slots.Held.{Held}
use Rattle.csq_checked.specs.Idle.{IdleSlots, NoneIsIdle, IsFirstIdle, AreIdle, count_out}
use Rattle.csq_checked.specs.Slots.{KnowsItsOwn, slot_at}

-- the words that a pass is of, and what is known of the pass
pub record CheckedPassState : Type 0 where
  pub words : WordsState
  pub pass : PassRecord

-- the pass as it is without its share of the words
abbrev pub open_state : CheckedPassState → OpenPassState
open_state p = record { table = p.words.table; irps = p.words.size.irps; passes = p.words.size.passes; pass = p.pass }

-- the pass is of these words, and the slots record what it holds and owes
pub record IsCheckedPass (words : WordsState) (pass : OpenPassState) (held : List (Option Held)) (owed : List (Option Life)) : Type 0 where
  pub on : IsPassOn words pass
  pub own : KnowsItsOwn words.size.irps pass.pass.steps held owed

-- an open queue, how many of its passes were never handed out, and those that came back and are idle
pub record CheckedState : Type 0 where
  pub queue : OpenState
  pub left : ℕ
  pub idle : IdleSlots

-- what is in the queue, in its order
abbrev pub listed : CheckedState → List Entry
listed q = (present_listing q.queue).entries

-- the queue, the passes that are left and those that are idle are of these words
pub record IsCheckedQueue (words : WordsState) (queue : OpenState) (rack : OpenRackState) (idle : IdleSlots) : Type 0 where
  pub on : IsQueueOn words queue
  pub rest : IsRackOn words rack
  pub idle_are : AreIdle words idle

-- this pass is handed out, which has seen and done nothing: none is idle
pub record HandsOutNew (q q' : CheckedState) (p : PassRecord) : Type 0 where
  pub none : NoneIsIdle q.idle
  pub new : p ≡ new_pass (pass_numbered (q.queue.limits.passes + 1 - q.left))
  pub left : q'.left + 1 ≡ q.left
  pub queue : q'.queue ≡ q.queue
  pub idle : q'.idle ≡ q.idle

-- the first idle pass is handed out again, which holds and owes nothing
pub record HandsOutAgain (q q' : CheckedState) (p : PassRecord) : Type 0 where
  pub slot : ℕ
  pub first : IsFirstIdle q.idle slot
  pub pass : OpenPassState
  pub there : slot_at q.idle slot ≡ Some pass
  pub again : p ≡ pass.pass
  pub nothing : HoldsNothing p
  pub queue : q' ≡ record q { idle = slice_set q.idle slot None }

-- how many passes of a queue are out
abbrev pub out_of : CheckedState → ℕ
out_of q = count_out q.idle (q.queue.limits.passes - q.left)

-- this pass came back, and is idle: nothing else is new
pub record HasComeBack (p : PassRecord) (q q' : CheckedState) : Type 0 where
  pub pass : OpenPassState
  pub same : pass.pass ≡ p
  pub slot : ℕ
  pub numbered : p.pass ≡ pass_numbered (suc slot)
  pub known : slot < length q.idle
  pub queue : q' ≡ record q { idle = slice_set q.idle slot (Some pass) }

-- the pass is one of the queue's
abbrev pub IsPassIn : OpenState → CheckedPassState → Type 0
IsPassIn queue pass = IsQueueOn pass.words queue
