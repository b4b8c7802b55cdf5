use Rattle.std.proofs.Common.{◌≡◌, ◌++◌, length}
use Rattle.csq_draw.specs.Characters.{characters}
use Rattle.csq_draw.proofs.characters.characters.Given as goal

-- what was made, and the characters of the rest
abbrev pub invariant-fronts : goal.invariant-fronts
invariant-fronts g l = l.made.items ++ characters l.rest ≡ characters l.fn.bytes

abbrev pub decreases-fronts : goal.decreases-fronts
decreases-fronts g l = length l.rest
