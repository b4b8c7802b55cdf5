use Rattle.std.proofs.Common.{◌≡◌, take}
use Rattle.csq_draw.specs.Windows.{cut}
use Rattle.csq_draw.proofs.window.cut.Given as goal

-- those so far that are shown were added
abbrev pub invariant-loop-row : goal.invariant-loop-row
invariant-loop-row g l = l.shown.items ≡ cut l.window l.places 0 (take l.row-index l.rows)
