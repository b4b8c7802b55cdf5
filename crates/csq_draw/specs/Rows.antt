-- The rows of a picture: one for each step, in order.
use Rattle.std.specs.Prelude.{List, [], ◌∷◌, ◌++◌, length}
use Rattle.irp_core.specs.Runs.{Size}
use Rattle.csq_replay.specs.Schedule.{Numbered, run_of}
use Rattle.csq_explain.specs.Passes.{all_passes}
use Rattle.csq_explain.specs.Sentences.{in_call}
use Rattle.csq_draw.specs.declared.marks.Legality.TheVariants.{Legal}
use Rattle.csq_draw.specs.declared.rows.Row.{Row}
use Rattle.csq_draw.specs.Owners.{owner_named, ended_by}
use Rattle.csq_draw.specs.Passes.{lock_before}
use Rattle.csq_draw.specs.Words.{words_named}

-- the row of a step after the steps W
abbrev pub row_of : Size → Numbered → List Numbered → Row
row_of size w W = record {
  row = length W;
  line = w.line;
  step = in_call (run_of W) w.step;
  legality = Legal;
  lock = lock_before (all_passes size W) w.step;
  ended = ended_by w.step.kind (owner_named size.irps (run_of W) w.step.kind);
  words = words_named size.first (run_of (w ∷ W)) w.step.kind;
}

-- the rows of the steps W, the oldest first
abbrev pub rows_of : Size → List Numbered → List Row
rows_of size [] = []
rows_of size (w ∷ W) = rows_of size W ++ row_of size w W ∷ []
