-- How large a queue C wants, and the queue that it gets.
use Rattle.std.specs.Prelude.{◌≡◌, ◌≤◌, ℕ, ◌==◌, List, replicate, Option, Some, None, if◌then◌else◌}
use Rattle.irp_core.specs.Runs.{IsInLargeLimits}
use Rattle.csq_list.specs.Listing.{IsLargeListSize, fresh}
use Rattle.atomic_table.specs.Seated.{TableId}
use Rattle.csq_words.specs.Queue.{limits_of}
use Rattle.csq_words.specs.Records.{new_queue}
use Rattle.csq_checked.specs.Passes.{CheckedState}
use Rattle.csq_checked.specs.declared.size.QueueSize.{QueueSize as Given}
use Rattle.csq_list.specs.AnyLists.{kind_for}
use Rattle.csq_list.specs.declared.any_list.ListKind.{ListKind}
use Rattle.csq_list.specs.declared.any_list.ListKind.TheVariants as kinds
use Rattle.csq_c.specs.Bodies.{QueueBodyState}
use Rattle.csq_c.specs.declared.shapes.CsqSize.{CsqSize}

-- the list's kind with this number, for so many IRPs
abbrev pub kind_numbered : ℕ → ℕ → Option ListKind
kind_numbered irps n = if n == 0 then Some kinds.Vector else if n == 1 then Some kinds.Chains else if n == 2 then Some (kind_for irps) else None

-- a size with this kind of list
abbrev pub with_kind : CsqSize → Option ListKind → Option Given
with_kind c None = None
with_kind c (Some kind) = Some (record { irps = c.irps; files = c.files; limit = c.limit; passes = c.passes; first = record { 0 = c.first_life }; list = kind })

-- the size, if its list is of a kind that there is
abbrev pub given_size : CsqSize → Option Given
given_size c = with_kind c (kind_numbered c.irps c.list)

-- each number is in its range
pub record IsGoodSize (c : CsqSize) : Type 0 where
  pub list : c.list ≤ 2
  pub words : IsInLargeLimits (record { irps = c.irps; passes = c.passes; first = c.first_life })
  pub listing : IsLargeListSize c.irps c.files c.limit

-- a new queue of this size, whose file objects have these limits, and whose words are this table's
abbrev pub new_checked_state : CsqSize → List ℕ → TableId → CheckedState
new_checked_state c limits table = record {
  queue = record { table = table; limits = limits_of c.passes c.first_life (fresh c.irps c.files c.limit limits); queue = new_queue c.first_life c.passes };
  left = c.passes;
  idle = replicate c.passes None;
}

-- the handle has such a queue, which is open
abbrev pub IsNewQueue : CsqSize → List ℕ → Option QueueBodyState → Type 0
IsNewQueue c limits body = (table : TableId) × (body ≡ Some (record { queue = Some (new_checked_state c limits table); rest = None }))
