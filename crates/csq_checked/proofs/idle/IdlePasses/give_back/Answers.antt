use Rattle.std.proofs.Common.{subst, sym, arith}
use Rattle.csq_checked.proofs.Imports.{OpenState, FirstAreBack}
use Rattle.csq_checked.proofs.Idling.{idle_are_back}
use Rattle.csq_checked.proofs.idle.IdlePasses.give_back.Goals as goal

pub returns-clause-all : goal.returns-clause-all
returns-clause-all c =
    let over = c.passes-test.false in
    subst (λ (q : OpenState). FirstAreBack c.args.taken q.queue.back) (sym c.passes.invariant.0)
    (λ p low high. idle_are_back c.args.words.now c.args.self c.requires.idle c.args.taken c.passes.at (omega arith) c.requires.all c.args.queue.now.queue p low (omega arith))
