use Rattle.std.proofs.Common.{◌≡◌, ℕ, rules, ◌-◌, ◌≤◌, ◌∙◌, ap, sym, subst, arith}
use Rattle.csq_words.specs.Records.{entered}
use Rattle.csq_queue.proofs.Imports.{get_elem?, Size, PassRecord, QueueRecord, Limits, IsExtendedBy, with_back, QueueAndPassHaveRun, out_count, pass_numbered, is_back, OpenState, OpenPassState, AreOut, IsClosed}
use Rattle.csq_queue.proofs.Backing.{none_is_out, none_out}
use Rattle.csq_queue.proofs.Leftovers.{rest_is, records_are}
use Rattle.csq_queue.proofs.named.csq.Csq.close_with.Given.{Over}
use Rattle.csq_queue.proofs.named.csq.Csq.close_with.Goals as goal
use Rattle.csq_queue.proofs.named.csq.Csq.close_with.Goals.{After-new, After-close}

-- passes are out, by the queue's record with what the receipts show
are_out : (g : Over) (c : After-new g) → AreOut g.N.QueueName.limits c.args.pass c.args.receipts.now (g.N.QueueName.limits.passes - c.args.rack) c.out-out.result
are_out g c =
    let agreed = subst (λ (z : Size × PassRecord). QueueAndPassHaveRun z.0 c.observe.new.self.queue z.1) (λ k. (c.self.invariant.1 k, c.pass.view_is k)) c.observe.ensures.agreed in
    let own : c.number.result ≡ c.args.pass.pass.0 = c.number.ensures.number ∙ (ap (λ (p : OpenPassState). p.pass.pass.0) c.observe.ensures.kept ∙ ap (λ (r : PassRecord). r.pass.0) c.pass.view_is) in
    let taken : c.taken.result ≡ g.N.QueueName.limits.passes - c.args.rack = c.taken.ensures ∙ (λ k. c.rack.invariant.2 k - c.rack.view_is k) in
    let limits = ap (λ (z : OpenState). z.limits) c.observe.ensures.step ∙ (ap (λ (z : OpenState). z.limits) c.see.ensures.queue ∙ c.locked.invariant.1) in
    record {
      queue = c.observe.new.self.queue;
      agreed = agreed;
      made = c.observe.ensures.made ∙ ap (λ (l : Limits). l.passes) limits;
      given = λ k r at. let n = c.see.ensures.shown k r at in agreed.agreed.shown n.0 r (ap (λ (z : OpenState). get_elem? z.queue.shown n.0) c.observe.ensures.step ∙ n.1);
      count = c.out-out.ensures.count ∙ (λ k. out_count (own k) c.observe.new.self.queue.back (taken k));
      some_out = c.if-out-gt0.true;
    }

pub returns-then-out-gt0-clause-cause : goal.returns-then-out-gt0-clause-cause
returns-then-out-gt0-clause-cause g c = (search rules, are_out g c)

pub returns-then-out-gt0-clause-closes : goal.returns-then-out-gt0-clause-closes
returns-then-out-gt0-clause-closes g c = λ holds first.
    let out = are_out g c in
    let none' = none_is_out out.queue c.args.pass c.args.receipts.now (g.N.QueueName.limits.passes - c.args.rack) out.given first in
    let count = out.count in
    let some_out = out.some_out in
    absurd (omega arith)

pub close-requires-clause-back : goal.close-requires-clause-back
close-requires-clause-back g c =
    let over = c.if-out-gt0.false in
    let back = c.observe.new.self.queue.back in
    let r = c.observe.new.pass.pass in
    let counted = c.out-out.ensures.count in
    let none' : out_count c.number.result back c.taken.result ≡ 0 = sym counted ∙ omega arith in
    let shut : c.give_back.new.self.queue ≡ with_back r (entered c.observe.new.self.queue) = ap (λ (z : OpenState). z.queue) c.give_back.ensures.back in
    let limits : c.give_back.new.self.limits.passes ≡ c.rack.inside.open.passes =
    ap (λ (z : OpenState). z.limits.passes) c.give_back.ensures.back
    ∙ (ap (λ (z : OpenState). z.limits.passes) c.observe.ensures.step ∙ (ap (λ (z : OpenState). z.limits.passes) c.see.ensures.queue ∙ (ap (λ (l : Limits). l.passes) c.locked.invariant.1 ∙ sym c.rack.invariant.2))) in
    let taken : c.taken.result ≡ c.give_back.new.self.limits.passes - c.rack.inside.open.left = c.taken.ensures ∙ (λ k. sym limits k - c.rack.inside.open.left) in
    let number' : r.pass ≡ pass_numbered c.number.result = λ k. pass_numbered (sym c.number.ensures.number k) in
    λ p low high. ap (λ (q : QueueRecord). is_back (pass_numbered p) q.back) shut ∙ none_out c.number.result back c.taken.result r none' number' p low (subst (λ n. p ≤ n) (sym taken) high)

-- what is left, by the queue's own limits, of those passes that were taken
shut : (g : Over) (c : After-close g) → IsClosed g.N.QueueName.limits (g.N.QueueName.limits.passes - c.args.rack) c.give_back.new.self.queue (g.L.PendingList.listing c.close.result.list) c.close.result.finals
shut g c =
    let limits : c.give_back.new.self.limits ≡ g.N.QueueName.limits =
    ap (λ (z : OpenState). z.limits) c.give_back.ensures.back ∙ (ap (λ (z : OpenState). z.limits) c.observe.ensures.step ∙ (ap (λ (z : OpenState). z.limits) c.see.ensures.queue ∙ c.locked.invariant.1)) in
    subst (λ (z : Limits × ℕ). IsClosed z.0 (z.0.passes - z.1) c.give_back.new.self.queue (g.L.PendingList.listing c.close.result.list) c.close.result.finals)
    (λ k. (limits k, c.rack.view_is k)) c.close.ensures.rest

-- the closing pass, which was observed
agreed_pass : (g : Over) (c : After-close g) → c.observe.new.pass.pass ≡ c.args.pass
agreed_pass g c = ap (λ (p : OpenPassState). p.pass) c.observe.ensures.kept ∙ c.pass.view_is

-- the queue's record once the closing pass is back
gave : (g : Over) (c : After-close g) → c.give_back.new.self.queue ≡ with_back c.args.pass (entered c.observe.new.self.queue)
gave g c = ap (λ (z : OpenState). z.queue) c.give_back.ensures.back ∙ ap (λ (r : PassRecord). with_back r (entered c.observe.new.self.queue)) (agreed_pass g c)

pub returns-clause-rest : goal.returns-clause-rest
returns-clause-rest g c =
    let begins = subst (λ (r : PassRecord). IsExtendedBy r.seen c.observe.new.self.queue.history) (agreed_pass g c) c.give_back.ensures.begins in
    rest_is g.N.QueueName.limits c.args.pass c.args.receipts.now (g.N.QueueName.limits.passes - c.args.rack) (entered c.observe.new.self.queue) c.give_back.new.self.queue (g.L.PendingList.listing c.close.result.list) c.close.result.finals (shut g c) (gave g c)
    begins (λ k r at. let n = c.see.ensures.shown k r at in (n.0, ap (λ (z : OpenState). get_elem? z.queue.shown n.0) c.observe.ensures.step ∙ n.1)) c.observe.ensures.agreed.agreed.shown

pub returns-clause-records : goal.returns-clause-records
returns-clause-records g c =
    records_are g.N.QueueName.limits c.args.pass c.args.receipts.now (g.N.QueueName.limits.passes - c.args.rack) (entered c.observe.new.self.queue) c.give_back.new.self.queue (g.L.PendingList.listing c.close.result.list) c.close.result.finals (shut g c) (gave g c)
