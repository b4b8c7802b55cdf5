use Rattle.csq_program.proofs.FirstLines.{IsLeftAt}
use Rattle.csq_program.proofs.cut.first_lines.Given as goal

abbrev pub invariant-loop-at : goal.invariant-loop-at
invariant-loop-at l = IsLeftAt l.fn.count l.fn.text l.at l.left
