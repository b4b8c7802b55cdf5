-- The lanes beside the column of a pass, in which the lines of the IRPs run that it owes or holds.
use Rattle.std.specs.Prelude.{ℕ, zero, suc, ◌+◌, ◌==◌, ◌&&◌, Bool, false, List, Option, Some, None, if◌then◌else◌}
use Rattle.std.specs.List.{list_any}
use Rattle.irp_core.specs.declared.ids.PassId.{PassId}
use Rattle.irp_core.specs.Steps.{same_pass}
use Rattle.csq_draw.specs.declared.owners.Owner.{Owner}

-- whether an IRP's owner is p, in this lane
abbrev pub is_in_lane : PassId → ℕ → Option Owner → Bool
is_in_lane p lane (Some o) = same_pass o.pass p && o.lane == lane
is_in_lane p lane None = false

-- whether p has one of the IRPs with these owners in this lane
abbrev pub is_taken : List (Option Owner) → PassId → ℕ → Bool
is_taken os p lane = list_any (is_in_lane p lane) os

-- of this number of lanes from this one on the first that p has free, or the one after them if it has none of them free
abbrev pub first_free : List (Option Owner) → PassId → ℕ → ℕ → ℕ
first_free os p zero lane = lane
first_free os p (suc more) lane = if is_taken os p lane then first_free os p more (lane + 1) else lane

-- of eight lanes the first that p has free, or else the ninth, in which further lines run on each other
unfoldable pub free_lane : List (Option Owner) → PassId → ℕ
free_lane os p = first_free os p 8 0

-- in which lane p comes to have an IRP: if it has the IRP already, the lane stays
abbrev pub lane_for : List (Option Owner) → PassId → Option Owner → ℕ
lane_for os p (Some o) = if same_pass o.pass p then o.lane else free_lane os p
lane_for os p None = free_lane os p
