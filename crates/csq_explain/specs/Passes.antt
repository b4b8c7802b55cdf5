-- What each pass is inside of, and since which line.
use Rattle.std.specs.Prelude.{ℕ, ◌+◌, true, false, List, [], ◌∷◌, if◌then◌else◌}
use Rattle.irp_core.specs.declared.ids.PassId.{PassId}
use Rattle.irp_core.specs.declared.inside.Inside.TheVariants.{Nothing}
use Rattle.irp_core.specs.Steps.{by}
use Rattle.irp_core.specs.Inside.{inside_after, is_outside}
use Rattle.irp_core.specs.Runs.{Size}
use Rattle.csq_replay.specs.Schedule.{Numbered}
use Rattle.csq_explain.specs.declared.passes.PassNow.{PassNow}
use Rattle.csq_explain.specs.Tables.{table}

-- a pass after its step: what that leads to, and the line on which its call began
abbrev pub pass_after : PassNow → Numbered → PassNow
pass_after before w = record {
  inside = inside_after before.inside w.step.kind w.step.found;
  line = if is_outside before.inside then w.line else before.line;
  makes = true;
}

abbrev pub new_pass_now : PassNow
new_pass_now = record { inside = Nothing; line = 0; makes = false }

-- p after the steps W
abbrev pub pass_now : List Numbered → PassId → PassNow
pass_now [] p = new_pass_now
pass_now (w ∷ W) p = if by p w.step then pass_after (pass_now W p) w else pass_now W p

-- the first passes, from 0 on, after the steps W
abbrev pub passes_now : ℕ → List Numbered → List PassNow
passes_now n W = table (λ p. pass_now W (record { 0 = p })) n

-- the passes that there are, and pass 0, which makes no step
abbrev pub all_passes : Size → List Numbered → List PassNow
all_passes size W = passes_now (size.passes + 1) W
