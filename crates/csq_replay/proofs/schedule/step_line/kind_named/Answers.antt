use Rattle.std.proofs.Common.{arith, refl, sym, codes}
use Rattle.std.proofs.lemmas.Slice.Eq.{text_from_reads}
use Rattle.csq_replay.proofs.schedule.step_line.kind_named.Goals as goal

pub returns-in-disarm : goal.returns-in-disarm
returns-in-disarm c =
    let name = text_from_reads c.args.verb.now (codes "disarm") (omega arith) (omega arith, (omega arith, (omega arith, (omega arith, (omega arith, (omega arith, tt)))))) in
    (sym name, refl)
