-- What a look at an open queue answers to C.
use Rattle.std.specs.Prelude.{◌≡◌, ℕ, Option, Some, None, Result, Ok, Err}
use Rattle.irp_core.specs.declared.ids.{FileId.{FileId}, IrpId.{IrpId}, IrpLife.{IrpLife}}
use Rattle.csq_list.specs.declared.entry.Peek.{Peek}
use Rattle.csq_queue.specs.declared.refusals.NotListed.{NotListed as Unlisted}
use Rattle.csq_queue.specs.Looks.{PeeksNext, listed_count, listed_for}
use Rattle.csq_checked.specs.Passes.{CheckedState}
use Rattle.csq_c.specs.Bodies.{QueueBodyState}
use Rattle.csq_c.specs.Codes.{number_of}
use Rattle.csq_c.specs.declared.codes.Code.{Code, TheVariants.{Done, UnknownFile, Nothing, EmptyHandle, NotListed, Closed}}

-- a look at an open queue is as defined for it. Of a closed one the code says so, and nothing is stored
pub record OnOpen (body : QueueBodyState) (code : Code) (nothing : Type 0) (stored : CheckedState → Type 0) : Type 0 where
  pub closed : body.queue ≡ None → (code ≡ Closed) × nothing
  pub looked : (q : CheckedState) → body.queue ≡ Some q → stored q

-- a look through the handle of a queue is as defined for what it holds. If it is empty the code says so, and nothing is written
pub record OnQueueHandle (queue : Option QueueBodyState) (result : ℕ) (kept : Type 0) (stored : QueueBodyState → Code → Type 0) : Type 0 where
  pub empty : queue ≡ None → (result ≡ number_of EmptyHandle) × kept
  pub looked : (body : QueueBodyState) → queue ≡ Some body → (code : Code) × (result ≡ number_of code) × stored body code

-- it stores how many IRPs are listed
abbrev pub CountsListed : QueueBodyState → Code → Option ℕ → Type 0
CountsListed body code stored = OnOpen body code (stored ≡ None) (λ q. (code ≡ Done) × (stored ≡ Some (listed_count q.queue)))

-- whether there is such a file object
abbrev pub file_code : Option ℕ → Code
file_code (Some n) = Done
file_code None = UnknownFile

-- it stores how many are listed for a file object
abbrev pub CountsListedFor : FileId → QueueBodyState → Code → Option ℕ → Type 0
CountsListedFor f body code stored = OnOpen body code (stored ≡ None) (λ q. (code ≡ file_code stored) × (stored ≡ listed_for q.queue f))

-- whether the next match was found
abbrev pub peek_code : Result (Option IrpLife) Unlisted → Code
peek_code (Ok (Some i)) = Done
peek_code (Ok None) = Nothing
peek_code (Err refused) = NotListed

-- which IRP it is
abbrev pub peeked_irp : Result (Option IrpLife) Unlisted → Option IrpLife
peeked_irp (Ok next) = next
peeked_irp (Err refused) = None

-- it stores the next match after this IRP, or the first one
abbrev pub PeeksNextOf : Option IrpId → Peek → QueueBodyState → Code → Option IrpLife → Type 0
PeeksNextOf after peek body code stored = OnOpen body code (stored ≡ None)
    (λ q. (answer : Result (Option IrpLife) Unlisted) × PeeksNext after peek answer q.queue × (code ≡ peek_code answer) × (stored ≡ peeked_irp answer))
