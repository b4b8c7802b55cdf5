use Rattle.std.proofs.Common.{◌≡◌, take}
use Rattle.csq_draw.specs.HarmMarks.{noted_harms}
use Rattle.csq_draw.proofs.harm_marks.note_harms.Given as goal

-- those so far were noted
abbrev pub invariant-loop-harm : goal.invariant-loop-harm
invariant-loop-harm l = l.lines ≡ noted_harms l.fn.lines (take l.harm-index l.harms)
