use Rattle.std.proofs.Common.{List, ℕ, string_bytes, rules, subst}
use Rattle.std.specs.Io.KnownBytes.{Appends}
use Rattle.csq_program.proofs.device_run.answer_run.Goals as goal

pub returns-in-Ok-clause-written : goal.returns-in-Ok-clause-written
returns-in-Ok-clause-written g c =
    let text = c.in_ok-text.text in
    let Grew : List ℕ → Type 0 = λ t. Appends (g.W.Write.contents c.args.writer.now) (g.W.Write.contents c.write_all.new.self) t in
    let written : Grew c.as_bytes.result.now = search rules in
    (string_bytes text, c.in_ok-text.ensures.reported, subst Grew c.as_bytes.ensures.value written)
