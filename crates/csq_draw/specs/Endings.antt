-- How a picture ends whose lines were all handled.
use Rattle.std.specs.Prelude.{Bool, List, not, position, slice_index_or}
use Rattle.std.specs.Option.{option_map}
use Rattle.irp_core.specs.Inside.{is_outside}
use Rattle.csq_explain.specs.declared.passes.PassNow.{PassNow}
use Rattle.csq_explain.specs.Passes.{new_pass_now}
use Rattle.csq_draw.specs.declared.ending.RestState.{RestState}

-- whether a pass is inside of a call
abbrev pub is_unfinished : PassNow → Bool
is_unfinished now = not (is_outside now.inside)

-- whether all is at rest, and the first pass whose call is unfinished, with the line in which that began
abbrev pub rest_of : List PassNow → Bool → RestState
rest_of passes at_rest = record {
  at_rest = at_rest;
  unfinished = option_map (λ n. (record { 0 = n }, (slice_index_or passes n new_pass_now).line)) (position is_unfinished passes);
}
