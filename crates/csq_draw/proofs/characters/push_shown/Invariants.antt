use Rattle.std.proofs.Common.{map}
use Rattle.csq_replay.specs.Lines.{GrewBy}
use Rattle.csq_draw.specs.Characters.{shown}
use Rattle.csq_draw.proofs.characters.push_shown.Given as goal

-- the characters so far were added
abbrev pub invariant-loop-character : goal.invariant-loop-character
invariant-loop-character g l = GrewBy l.fn.to.items l.to.items (map shown l.yielded)
