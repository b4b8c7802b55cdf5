use Rattle.std.proofs.Common.{arith}
use Rattle.std.proofs.lemmas.Str.{utf8_valid_len_le}
use Rattle.csq_draw.proofs.characters.utf8_front.Goals as goal

pub returns-in-None-clause-len : goal.returns-in-None-clause-len
returns-in-None-clause-len c =
    let within = utf8_valid_len_le c.args.bytes.now in
    omega (arith, c.in-None.ensures.steps.0, c.utf8_chunks.ensures.len)
