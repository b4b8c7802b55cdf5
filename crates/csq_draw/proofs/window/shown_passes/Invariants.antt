use Rattle.std.proofs.Common.{◌≡◌}
use Rattle.std.specs.Prelude.{slice_index_or}
use Rattle.csq_explain.specs.Passes.{new_pass_now}
use Rattle.csq_explain.specs.Tables.{table}
use Rattle.csq_draw.specs.Windows.{is_shown, shown_pass}
use Rattle.csq_draw.proofs.window.shown_passes.Given as goal

-- the passes so far were added
abbrev pub invariant-loop-number : goal.invariant-loop-number
invariant-loop-number g l = l.shown.items ≡ table (λ n. shown_pass (slice_index_or l.passes n new_pass_now) (is_shown l.rows l.owners (record { 0 = n }))) l.number
