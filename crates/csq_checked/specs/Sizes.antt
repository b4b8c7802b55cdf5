-- How large a queue is to be.
use Rattle.std.specs.Prelude.{◌≡◌, ℕ, List, None, replicate}
use Rattle.irp_core.specs.Runs.{Size}
use Rattle.atomic_table.specs.Seated.{TableId}
use Rattle.csq_list.specs.Listing.{Listing, IsFresh, fresh}
use Rattle.csq_words.specs.Queue.{Limits, limits_of}
use Rattle.csq_words.specs.Records.{new_queue}
use Rattle.csq_checked.specs.Passes.{CheckedState}
use Rattle.csq_checked.specs.declared.size.QueueSize.{QueueSize as Given}

-- the numbers of a queue's words
abbrev pub size_in : Given → Size
size_in g = record { irps = g.irps; passes = g.passes; first = g.first.0 }

-- its limits, with these of its file objects
abbrev pub limits_given : Given → List ℕ → Limits
limits_given g file_limits = limits_of g.passes g.first.0 (fresh g.irps g.files g.limit file_limits)

-- the list is fresh, and of this size
abbrev pub IsFreshOf : Given → Listing → Type 0
IsFreshOf g s = IsFresh s × (s.irps ≡ g.irps)

-- a new queue of this size, which has these limits, and whose words are this table's
abbrev pub new_checked : Given → Limits → TableId → CheckedState
new_checked g limits table = record {
  queue = record { table = table; limits = limits; queue = new_queue g.first.0 g.passes };
  left = g.passes;
  idle = replicate g.passes None;
}
