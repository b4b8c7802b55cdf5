-- What an open queue shows without a pass.
use Rattle.std.specs.Prelude.{◌≡◌, ◌↔◌, ℕ, nat_lt, length, if◌then◌else◌, Option, Some, None, Result, IsOk, IfOk}
use Rattle.std.specs.Option.{option_map}
use Rattle.irp_core.specs.declared.ids.{FileId.{FileId}, IrpId.{IrpId}, IrpLife.{IrpLife}}
use Rattle.csq_list.specs.declared.entry.Peek.{Peek}
use Rattle.csq_list.specs.Listing.{Listing, file_len}
use Rattle.csq_list.specs.Searches.{first_match, rest_after, IsStartIn}
use Rattle.csq_words.specs.History.{end_of}
use Rattle.csq_words.specs.Queue.{QueueState, present_in, plain_listing}
use Rattle.csq_queue.specs.Opens.{OpenState}
use Rattle.csq_queue.specs.declared.refusals.NotListed.{NotListed}

-- the queue of one thread, as the calls so far leave it
abbrev pub present_queue : OpenState → QueueState
present_queue q = end_of q.limits.first q.queue.history

-- its list
abbrev pub present_listing : OpenState → Listing
present_listing q = plain_listing q.limits (present_queue q)

-- how many IRPs are listed
abbrev pub listed_count : OpenState → ℕ
listed_count q = length (present_listing q).entries

-- how many are listed for a file object, if there is one
abbrev pub listed_for : OpenState → FileId → Option ℕ
listed_for q f = if nat_lt f.0 q.limits.files then Some (file_len (present_listing q) f) else None

-- the first match after a listed IRP, or from the first listed one on, in its present life
abbrev pub next_listed : OpenState → Option IrpId → Peek → Option IrpLife
next_listed q after peek = option_map (present_in (present_queue q)) (first_match peek (rest_after after (present_listing q).entries))

-- a look after this IRP: refused exactly if it isn't listed
pub record PeeksNext (after : Option IrpId) (peek : Peek) (answer : Result (Option IrpLife) NotListed) (q : OpenState) : Type 0 where
  pub listed : IsOk answer ↔ IsStartIn (present_listing q).entries after
  pub found : IfOk answer (λ next. next ≡ next_listed q after peek)
