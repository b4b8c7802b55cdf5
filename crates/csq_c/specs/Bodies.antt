-- What the handles stand for.
use Rattle.std.specs.Prelude.{List, Option, Some, None, IfSome}
use Rattle.std.specs.Global.{Global}
use Rattle.csq_list.specs.Listing.{Listing}
use Rattle.csq_list.specs.declared.entry.Entry.{Entry}
use Rattle.csq_words.specs.Finals.{FinalWords}
use Rattle.csq_checked.specs.Passes.{CheckedState, CheckedPassState, IsPassIn}
use Rattle.csq_list.specs.declared.any_list.AnyList.{AnyList}
use Rattle.csq_queue.specs.declared.rest.Rest.{Rest}

-- what is left of a closed queue: the entries of its list, and its words
pub record RestState : Type 0 where
  pub entries : List Entry
  pub finals : FinalWords

-- an open queue, or what is left of one that was closed
pub record QueueBodyState : Type 0 where
  pub queue : Option CheckedState
  pub rest : Option RestState

-- what is left, by what the list means
abbrev pub rest_of : (AnyList → Listing) → Option (Rest AnyList Global) → Option RestState
rest_of listing None = None
rest_of listing (Some rest) = Some (record { entries = (listing rest.list).entries; finals = rest.finals })

-- the open queue of a handle, if it has one
abbrev pub open_of : Option QueueBodyState → Option CheckedState
open_of None = None
open_of (Some body) = body.queue

-- the pass was made by the queue, if there is an open one
abbrev pub IsPassFor : QueueBodyState → CheckedPassState → Type 0
IsPassFor body p = IfSome body.queue (λ q. IsPassIn q.queue p)
