use Rattle.std.proofs.Common.{◌+◌, arith, subst, sym, List}
use Rattle.csq_explain.proofs.Imports.{size_of, IrpLine, AreReportedOf, reported_more}
use Rattle.csq_explain.proofs.execution.reported_irps.Goals as goal

pub loop-number-preserved : goal.loop-number-preserved
loop-number-preserved g c =
    let (more, grown, reported) = c.in_ok-push_reported.ensures.reported in
    record {
      reported = λ E a.
          let P : List IrpLine → Type 0 = λ t. AreReportedOf (size_of c.args.machine.now).first E (c.loop-number.number + 1) t in
          subst P (sym grown) (reported_more _ E c.loop-number.number _ more (c.loop-number.invariant.reported E a) (reported E a));
      few = let now = c.in_ok-push_reported.ensures.few in let before = c.loop-number.invariant.few in omega (arith, now, before);
    }
