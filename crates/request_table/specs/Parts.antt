-- What a table keeps beside what it means.
use Rattle.std.specs.Prelude.{◌≡◌, ℕ, ◌≤◌, Bool, List, length, filter, slice_index_or, Option}
use Rattle.irp_core.specs.declared.ids.{IrpId.{IrpId}, FileId.{FileId}}
use Rattle.irp_core.specs.declared.limits.TheConstants.{LARGE_MAX_IRPS}
use Rattle.request_table.specs.declared.table.TheConstants.{MAX_FILES}
use Rattle.request_table.specs.declared.stage.Stage.{Stage}
use Rattle.request_table.specs.Stages.{is_free}
use Rattle.request_table.specs.Requests.{Requests, IsSound, under_way, under_way_of_all}

-- what the stages, the free numbers, the times and what is closed mean together
abbrev pub requests_of : List Stage → List IrpId → List (Option ℕ) → Bool → List Bool → Requests
requests_of stages free dues closed closed_files = record { stages = stages; free = free; dues = dues; closed = closed; closed_files = closed_files }

-- the counts of a table are what is under way, and there is room for each number among the free ones
pub record IsKept (lens : List ℕ) (all : ℕ) (room : ℕ) (r : Requests) : Type 0 where
  pub sound : IsSound r
  pub counted : (f : FileId) → slice_index_or lens f.0 0 ≡ under_way r f
  pub all_counted : all ≡ under_way_of_all r
  pub each_file : length lens ≡ length r.closed_files
  pub free_counted : length r.free ≡ length (filter is_free r.stages)
  pub room_for_each : length r.stages ≤ room
  pub few : length r.stages ≤ LARGE_MAX_IRPS
  pub few_files : length r.closed_files ≤ MAX_FILES
