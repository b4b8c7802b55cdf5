use Rattle.std.proofs.Common.{◌≡◌, map, take}
use Rattle.csq_draw.specs.Windows.{open_in}
use Rattle.csq_draw.proofs.window.open_owners.Given as goal

-- those so far were added
abbrev pub invariant-loop-owner : goal.invariant-loop-owner
invariant-loop-owner g l = l.lines.items ≡ map (open_in l.window l.places) (take l.owner-index l.owners)
