-- A queue, its passes and its rack, without a name and without a lock.
use Rattle.std.specs.Prelude.{◌≡◌, ℕ, ◌+◌, ◌<◌, ◌≤◌, List, [], ◌∷◌, Option, Some, None}
use Rattle.atomic_table.specs.Seated.{TableId}
use Rattle.irp_core.specs.declared.limits.TheConstants.{LARGE_MAX_IRPS, LARGE_MAX_PASSES}
use Rattle.csq_list.specs.Listing.{Listing}
use Rattle.csq_words.specs.declared.views.{PassRecord.{PassRecord}, QueueRecord.{QueueRecord}}
use Rattle.csq_words.specs.Queue.{Limits}
use Rattle.csq_words.specs.Seats.{WordsState, PassSeatState, new_seats}
use Rattle.csq_queue.specs.Named.{no_table, queue_size}

-- the table of its words, the limits of its list, and what its seat knows
pub record OpenState : Type 0 where
  pub table : TableId
  pub limits : Limits
  pub queue : QueueRecord

-- the table of its words, how many IRPs and passes its queue has, and what is known of the pass
pub record OpenPassState : Type 0 where
  pub table : TableId
  pub irps : ℕ
  pub passes : ℕ
  pub pass : PassRecord

-- the table of its seats, if there are any, how many IRPs and passes its queue has, and how many seats are left
pub record OpenRackState : Type 0 where
  pub table : TableId
  pub irps : ℕ
  pub passes : ℕ
  pub left : ℕ

-- the table of a pass's seat that is here
abbrev pub seat_table : Option PassSeatState → TableId
seat_table None = no_table
seat_table (Some s) = s.table

-- the table of the first of these seats
abbrev pub rack_table : List (Option PassSeatState) → TableId
rack_table [] = no_table
rack_table (s ∷ rest) = seat_table s

-- these are the seats of the last passes, of which the first has this number
pub record IsRack (seats : List (Option PassSeatState)) (irps next left : ℕ) : Type 0 where
  pub seats_are : seats ≡ new_seats (rack_table seats) next left
  pub from : 1 ≤ next
  pub few : next + left ≤ LARGE_MAX_PASSES + 1
  pub most : irps ≤ LARGE_MAX_IRPS

-- the queue after a call of this pass, which has then seen the whole history and the execution: they alone are new, and what the call found
abbrev pub after_call : PassRecord → OpenState → OpenState
after_call pass q = record q { queue = record q.queue { history = pass.seen; found = q.queue.history; trace = pass.trace } }

-- the limits of a queue of these words, over this list
abbrev pub limits_on : WordsState → Listing → Limits
limits_on words s = record { irps = words.size.irps; files = s.files; passes = words.size.passes; limit = s.limit; file_limits = s.file_limits; first = words.size.first }

-- the queue is of these words
pub record IsQueueOn (words : WordsState) (q : OpenState) : Type 0 where
  pub table : q.table ≡ words.table
  pub size : queue_size q.limits ≡ words.size

-- the pass is of these words
pub record IsPassOn (words : WordsState) (p : OpenPassState) : Type 0 where
  pub table : p.table ≡ words.table
  pub irps : p.irps ≡ words.size.irps
  pub passes : p.passes ≡ words.size.passes

-- the passes that are left are of these words
pub record IsRackOn (words : WordsState) (r : OpenRackState) : Type 0 where
  pub table : 0 < r.left → r.table ≡ words.table
  pub irps : r.irps ≡ words.size.irps
  pub passes : r.passes ≡ words.size.passes
