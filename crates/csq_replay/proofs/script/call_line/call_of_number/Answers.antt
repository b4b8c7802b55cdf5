use Rattle.std.proofs.Common.{arith, refl, codes, decimal}
use Rattle.std.proofs.lemmas.Slice.Eq.{text_from_reads}
use Rattle.csq_replay.proofs.script.call_line.call_of_number.Goals as goal

pub returns-in-status : goal.returns-in-status
returns-in-status c =
    let name = text_from_reads c.args.name.now (codes "status") (omega arith) (omega arith, (omega arith, (omega arith, (omega arith, (omega arith, (omega arith, tt)))))) in
    (name, (decimal c.args.number, refl, (refl, c.requires.short)))

pub returns-in-routine : goal.returns-in-routine
returns-in-routine c =
    let name = text_from_reads c.args.name.now (codes "routine") (omega arith) (omega arith, (omega arith, (omega arith, (omega arith, (omega arith, (omega arith, (omega arith, tt))))))) in
    (name, (decimal c.args.number, refl, (refl, c.requires.short)))

pub returns-in-cleanup : goal.returns-in-cleanup
returns-in-cleanup c =
    let name = text_from_reads c.args.name.now (codes "cleanup") (omega arith) (omega arith, (omega arith, (omega arith, (omega arith, (omega arith, (omega arith, (omega arith, tt))))))) in
    (name, (decimal c.args.number, refl, (refl, c.requires.short)))
