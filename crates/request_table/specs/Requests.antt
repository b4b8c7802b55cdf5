-- What a table of requests means, what it counts, and how each call changes it.
use Rattle.std.specs.Prelude.{◌≡◌, ℕ, zero, suc, ◌≤◌, Bool, false, if◌then◌else◌, List, [], ◌∷◌, ◌++◌, length, filter, drop, replicate, slice_index_or, slice_set, Option, None, IsTrue, IsSome}
use Rattle.irp_core.specs.declared.ids.{IrpId.{IrpId}, FileId.{FileId}}
use Rattle.irp_core.specs.declared.limits.TheConstants.{LARGE_MAX_IRPS}
use Rattle.irp_core.specs.Steps.{same_id}
use Rattle.request_table.specs.declared.table.TheConstants.{MAX_FILES}
use Rattle.request_table.specs.declared.stage.Stage.{Stage, TheVariants.{Free, Listed, Spent}}
use Rattle.request_table.specs.Stages.{is_free, is_under_way, is_for, may_be_due}
use Rattle.request_table.specs.Times.{due_in}

-- the stages by number, the free numbers, of which the first has been free longest, when each number is due, if ever, whether all is closed, and which files are
pub record Requests : Type 0 where
  pub stages : List Stage
  pub free : List IrpId
  pub dues : List (Option ℕ)
  pub closed : Bool
  pub closed_files : List Bool

-- the stage of a number: one that there isn't is spent
abbrev pub stage_of : Requests → IrpId → Stage
stage_of r i = slice_index_or r.stages i.0 Spent

-- when a number is due, if ever
abbrev pub due_of : Requests → IrpId → Option ℕ
due_of r i = due_in r.dues i

-- how many requests are under way for a file
abbrev pub under_way : Requests → FileId → ℕ
under_way r f = length (filter (is_for f) r.stages)

-- and for all
abbrev pub under_way_of_all : Requests → ℕ
under_way_of_all r = length (filter is_under_way r.stages)

-- how often a number stands among the free ones
abbrev pub times_free : Requests → IrpId → ℕ
times_free r i = length (filter (same_id i) r.free)

-- what is true of every table
pub record IsSound (r : Requests) : Type 0 where
  -- a number stands among the free ones once if its stage is Free, and otherwise never
  pub free_once : (i : IrpId) → times_free r i ≡ (if is_free (stage_of r i) then 1 else 0)
  pub due_waits : (i : IrpId) → IsSome (due_of r i) → IsTrue (may_be_due (stage_of r i))
  pub all_have_dues : length r.dues ≡ length r.stages
  pub files_known : (f : FileId) → length r.closed_files ≤ f.0 → under_way r f ≡ 0

-- numbers of IRPs and files with which a table may be made
pub record IsTableSize (irps files : ℕ) : Type 0 where
  pub irps_in_range : (1 ≤ irps) × (irps ≤ LARGE_MAX_IRPS)
  pub files_in_range : (1 ≤ files) × (files ≤ MAX_FILES)

-- the numbers below n, in order
abbrev pub ids_below : ℕ → List IrpId
ids_below zero = []
ids_below (suc n) = ids_below n ++ record { 0 = n } ∷ []

-- the table as it is made
abbrev pub fresh : ℕ → ℕ → Requests
fresh irps files = record { stages = replicate irps Free; free = ids_below irps; dues = replicate irps None; closed = false; closed_files = replicate files false }

-- the table with another stage of a number
abbrev pub with_stage : IrpId → Stage → Requests → Requests
with_stage i s r = record r { stages = slice_set r.stages i.0 s }

-- the table with another time at which a number is due
abbrev pub with_due : IrpId → Option ℕ → Requests → Requests
with_due i d r = record r { dues = slice_set r.dues i.0 d }

-- after the number that has been free longest was listed
abbrev pub begun : IrpId → FileId → Requests → Requests
begun i f r = record r { stages = slice_set r.stages i.0 (Listed f); free = drop 1 r.free }

-- the stage of a number whose request has ended
abbrev pub stage_after : Bool → Stage
stage_after spent = if spent then Spent else Free

-- the free numbers with one more, unless it is spent
abbrev pub free_after : Bool → IrpId → List IrpId → List IrpId
free_after spent i free = if spent then free else free ++ i ∷ []

-- after a request ended
abbrev pub finished : IrpId → Bool → Requests → Requests
finished i spent r = record r { stages = slice_set r.stages i.0 (stage_after spent); free = free_after spent i r.free }
