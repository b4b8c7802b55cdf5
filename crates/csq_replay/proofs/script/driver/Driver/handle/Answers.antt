use Rattle.std.proofs.Common.{refl, arith}
use Rattle.csq_replay.proofs.Going.{run_for}
use Rattle.csq_replay.proofs.script.driver.Driver.handle.Goals as goal

pub returns-then-line-gt-MAX_LINE : goal.returns-then-line-gt-MAX_LINE
returns-then-line-gt-MAX_LINE g c = λ l s k. (s, (omega arith, refl), k)

pub returns-then-is_skipped : goal.returns-then-is_skipped
returns-then-is_skipped g c = λ l s k. (s, (omega arith, c.is_skipped.ensures.0 c.if-is_skipped.true, refl), k)

pub returns-in_default : goal.returns-in_default
returns-in_default g c = λ l s k. (s, (omega arith, (λ h. let t = c.is_skipped.ensures.1 h in cc (t, c.if-is_skipped.false)), c.in_default.ensures, refl), k)

pub returns : goal.returns
returns g c = λ l s k.
    let (t, does, kept) = c.answer-reply.ensures l s k in
    (t, (c.in-Some.ensures, does, run_for l _ t kept.0), kept)
