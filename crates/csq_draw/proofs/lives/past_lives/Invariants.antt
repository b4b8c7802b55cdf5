use Rattle.std.proofs.Common.{◌≡◌, take}
use Rattle.csq_draw.specs.Lives.{past_lives}
use Rattle.csq_draw.proofs.lives.past_lives.Given as goal

-- those of the rows so far were added
abbrev pub invariant-loop-row : goal.invariant-loop-row
invariant-loop-row g l = l.lives.items ≡ past_lives l.irps (take l.row-index l.rows)
