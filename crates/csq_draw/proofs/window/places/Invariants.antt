use Rattle.std.proofs.Common.{◌≡◌, take}
use Rattle.csq_draw.specs.Windows.{places}
use Rattle.csq_draw.proofs.WindowLaws.{after}
use Rattle.csq_draw.proofs.window.places.Given as goal

-- those so far were counted
abbrev pub invariant-loop-row : goal.invariant-loop-row
invariant-loop-row g l = (l.places.items ≡ places l.window 0 (take l.row-index l.rows)) × (l.shown ≡ after l.window 0 (take l.row-index l.rows))
