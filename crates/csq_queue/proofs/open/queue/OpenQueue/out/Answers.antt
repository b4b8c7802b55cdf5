use Rattle.std.proofs.Common.{◌≡◌, ◌∙◌, sym, arith}
use Rattle.csq_queue.specs.Named.{out_count}
use Rattle.csq_queue.proofs.Backing.{others_back}
use Rattle.csq_queue.proofs.open.queue.OpenQueue.out.Goals as goal

pub returns-clause-all : goal.returns-clause-all
returns-clause-all g c = λ none nobody p low high.
    let back = c.args.self.now.queue.back in
    let over = c.passes-test.false in
    let counted : out_count c.args.own back c.passes.next ≡ 0 = sym c.passes.invariant.0 ∙ none in
    others_back c.args.own back c.passes.next counted p low (omega arith) (λ same. omega arith)
