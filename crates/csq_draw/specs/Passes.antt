-- Who has the lock as a step is made, and the columns of the passes.
use Rattle.std.specs.Prelude.{ℕ, Bool, List, take, count_by, position, slice_index_or, Option, Some, if◌then◌else◌}
use Rattle.std.specs.Option.{option_map}
use Rattle.irp_core.specs.declared.ids.PassId.{PassId}
use Rattle.irp_core.specs.declared.step.Made.{Made}
use Rattle.irp_core.specs.Lock.{needs_lock}
use Rattle.irp_core.specs.Inside.{has_lock}
use Rattle.csq_explain.specs.declared.passes.PassNow.{PassNow}
use Rattle.csq_explain.specs.Passes.{new_pass_now}

-- the pass that has the lock
abbrev pub lock_of : List PassNow → Option PassId
lock_of passes = option_map (λ n. record { 0 = n }) (position (λ (now : PassNow). has_lock now.inside) passes)

-- the pass that has the lock as a step is made: the one that makes it, if it needs the lock, otherwise the one before
abbrev pub lock_at : Option PassId → Made → Option PassId
lock_at held m = if needs_lock m.kind then Some m.pass else held

abbrev pub lock_before : List PassNow → Made → Option PassId
lock_before passes m = lock_at (lock_of passes) m

-- whether p makes a step
abbrev pub makes_step : List PassNow → PassId → Bool
makes_step passes p = (slice_index_or passes p.0 new_pass_now).makes

-- how many of these passes make a step: each has a column
abbrev pub columns : List PassNow → ℕ
columns passes = count_by (λ (now : PassNow). now.makes) passes

-- the column of p, from 0 on: as many passes before it make a step
abbrev pub column_of : List PassNow → PassId → ℕ
column_of passes p = columns (take p.0 passes)
