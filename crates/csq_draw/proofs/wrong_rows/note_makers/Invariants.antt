use Rattle.std.proofs.Common.{◌≡◌, take}
use Rattle.csq_draw.specs.WrongRows.{makers}
use Rattle.csq_draw.proofs.wrong_rows.note_makers.Given as goal

-- those so far were noted
abbrev pub invariant-loop-row : goal.invariant-loop-row
invariant-loop-row l = l.passes ≡ makers l.fn.passes (take l.row-index l.rows)
