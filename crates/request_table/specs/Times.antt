-- When numbers are due, and the tree in which their times stand.
use Rattle.std.specs.Prelude.{◌≡◌, ℕ, ◌+◌, ◌<◌, ◌≤◌, ◌*◌, ◌^◌, nat_lt, min, if◌then◌else◌, List, length, map, drop, slice_index, slice_index_or, Option, Some, None}
use Rattle.irp_core.specs.declared.ids.IrpId.{IrpId}
use Rattle.request_table.specs.declared.dues.TheConstants.{NEVER}

-- when a number is due, if ever
abbrev pub due_in : List (Option ℕ) → IrpId → Option ℕ
due_in dues i = slice_index_or dues i.0 None

-- a number is due at a time, and none is due before
pub record IsFirstDue (dues : List (Option ℕ)) (i : IrpId) (t : ℕ) : Type 0 where
  pub due : due_in dues i ≡ Some t
  pub first : (j : IrpId) (s : ℕ) → due_in dues j ≡ Some s → t ≤ s

-- a number is due now or before, and none is due before it
abbrev pub IsOver : List (Option ℕ) → ℕ → IrpId → Type 0
IsOver dues now i = (t : ℕ) × IsFirstDue dues i t × (t ≤ now)

-- what is due is due later
abbrev pub NoneIsOver : List (Option ℕ) → ℕ → Type 0
NoneIsOver dues now = (i : IrpId) (t : ℕ) → due_in dues i ≡ Some t → now < t

-- a time is the first at which a number is due
abbrev pub IsNextDue : List (Option ℕ) → ℕ → Type 0
IsNextDue dues t = (i : IrpId) × IsFirstDue dues i t

-- nothing is due
abbrev pub NoneIsDue : List (Option ℕ) → Type 0
NoneIsDue dues = (i : IrpId) → due_in dues i ≡ None

-- when it is due, unless that is never
abbrev pub due_at : ℕ → Option ℕ
due_at t = if nat_lt t NEVER then Some t else None

-- when each number is due, by the leaves of a tree, of which the first has this index
abbrev pub dues_of : ℕ → List ℕ → List (Option ℕ)
dues_of leaves times = map due_at (drop leaves times)

-- a node is the least of the two below it
abbrev pub IsLeast : List ℕ → ℕ → Type 0
IsLeast times k = slice_index times k ≡ min (slice_index times (2 * k)) (slice_index times (2 * k + 1))

-- the nodes above the leaves, from 1 on, are the least of what is below them
pub record IsTree (leaves : ℕ) (times : List ℕ) : Type 0 where
  pub some : 1 ≤ leaves
  pub few : leaves < 2 ^ 32
  pub size : length times ≡ leaves + leaves
  pub least : (k : ℕ) → 1 ≤ k → k < leaves → IsLeast times k
