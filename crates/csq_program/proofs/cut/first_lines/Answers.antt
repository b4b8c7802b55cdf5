use Rattle.std.proofs.Common.{refl, ap, ◌∙◌, subst, arith}
use Rattle.csq_replay.specs.Pieces.{lines_of}
use Rattle.csq_program.proofs.FirstLines.{IsLeftAt, none_left, all_left, line_less, line_goes_on, lines_first}
use Rattle.csq_program.proofs.cut.first_lines.Goals.{then-text-at-eq10, else-text-at-eq10}
use Rattle.csq_program.proofs.cut.first_lines.Goals as goal

pub loop-at-init : goal.loop-at-init
loop-at-init c = refl

pub returns-then-left-eq0-clause-bytes : goal.returns-then-left-eq0-clause-bytes
returns-then-left-eq0-clause-bytes c = none_left c.args.count c.loop-at.at c.args.text.now (subst (IsLeftAt c.args.count c.args.text.now c.loop-at.at) c.if-left-eq0.true c.loop-at.invariant)

pub returns-then-left-eq0-clause-lines : goal.returns-then-left-eq0-clause-lines
returns-then-left-eq0-clause-lines c = ap lines_of (returns-then-left-eq0-clause-bytes c) ∙ lines_first c.args.count c.args.text.now

pub loop-at-preserved : goal.loop-at-preserved
loop-at-preserved c =
    let count = c.args.count in
    let text = c.args.text.now in
    let at = c.loop-at.at in
    let next = c.if-text-at-eq10.left in
    elim c.if-text-at-eq10.branch [
      | then-text-at-eq10 w ↦ line_less count at c.loop-at.left next text c.loop-at-test.true c.if-left-eq0.false w.if-text-at-eq10.true w.left-is c.loop-at.invariant
      | else-text-at-eq10 w ↦ line_goes_on count at c.loop-at.left next text c.loop-at-test.true c.if-left-eq0.false w.if-text-at-eq10.false w.left-is c.loop-at.invariant
    ]

pub returns-clause-bytes : goal.returns-clause-bytes
returns-clause-bytes c = all_left c.args.count c.loop-at.at c.loop-at.left c.args.text.now (omega (arith, c.loop-at-test.false)) c.loop-at.invariant

pub returns-clause-lines : goal.returns-clause-lines
returns-clause-lines c = ap lines_of (returns-clause-bytes c) ∙ lines_first c.args.count c.args.text.now
