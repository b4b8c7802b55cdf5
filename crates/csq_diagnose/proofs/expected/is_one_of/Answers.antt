use Rattle.csq_diagnose.proofs.OneOf.{one_of}
use Rattle.csq_diagnose.proofs.expected.is_one_of.Goals as goal

pub returns : goal.returns
returns c = rw c.has_word.ensures (one_of c.args.words.now c.args.word.now)
