use Rattle.std.proofs.Common.{◌≡◌, ◌-◌, ◌+◌, ◌≤◌, ◌∙◌, ◌∷◌, ap, sym, subst, arith, List}
use Rattle.csq_words.specs.Records.{entered}
use Rattle.csq_queue.proofs.Imports.{PassRecord, QueueRecord, new_pass, IsExtendedBy, pass_numbered, OpenState, OpenPassState, FirstAreBack}
use Rattle.csq_queue.proofs.Backing.{rack_more, rest_more, all_recorded}
use Rattle.csq_queue.proofs.open.queue.OpenQueue.give_rest.Goals as goal

pub rest-preserved : goal.rest-preserved
rest-preserved g c =
    let was = c.rest.invariant in
    let passes = c.args.self.now.limits.passes in
    let all : c.rest.rack.passes ≡ passes = was.3.passes ∙ sym (ap (λ z. z.passes) c.requires.queue.size) in
    let r = c.in-Some.pass.pass in
    let new : r ≡ new_pass (pass_numbered (passes + 1 - c.rest.rack.left)) = ap (λ (z : OpenPassState). z.pass) c.in-Some.ensures.new ∙ ap (λ n. new_pass (pass_numbered (n + 1 - c.rest.rack.left))) all in
    let less = c.in-Some.ensures.left in
    let few : c.rest.rack.left ≤ passes = subst (λ n. c.rest.rack.left ≤ n) all c.in-Some.ensures.most in
    let back = c.give_back.ensures.back in
    let queue = ap (λ (z : OpenState). z.queue) back in
    let given = was.5 in
    let sum = was.2 in (
      ap (λ (z : OpenState). z.table) back ∙ was.0,
      ap (λ (z : OpenState). z.limits) back ∙ was.1,
      omega arith,
      record { table = λ some. c.in-Some.ensures.table some ∙ was.3.table (omega arith); irps = c.in-Some.ensures.same.0 ∙ was.3.irps; passes = c.in-Some.ensures.same.1 ∙ was.3.passes },
      subst (λ (z : List PassRecord). FirstAreBack (passes - c.take.new.self.left) z) (sym (ap (λ (q : QueueRecord). q.back) queue))
          (rack_more passes c.rest.rack.left c.take.new.self.left c.rest.self.queue.back r (ap (λ (z : PassRecord). z.pass) new) less few was.4),
      record {
        first_is = ap (λ (q : QueueRecord). q.first) queue ∙ given.first_is;
        made = ap (λ (q : QueueRecord). q.made) queue ∙ given.made;
        history = ap (λ (q : QueueRecord). q.history) queue ∙ given.history;
        trace = subst (IsExtendedBy c.args.self.now.queue.trace) (sym (ap (λ (q : QueueRecord). q.trace) queue)) given.trace;
        shown = ap (λ (q : QueueRecord). q.shown) queue ∙ given.shown;
        newer = r ∷ given.newer;
        kept = ap (λ (q : QueueRecord). q.back) queue ∙ ap (λ (t : List PassRecord). r ∷ t) given.kept;
        untaken = rest_more passes c.rest.rack.left c.take.new.self.left (passes - c.args.rack.left) (entered c.rest.self.queue) c.give_back.new.self.queue r queue new less few given.untaken;
      },
    )

pub returns-clause-all : goal.returns-clause-all
returns-clause-all g c =
    let was = c.rest.invariant in
    let sum = was.2 in
    let over = c.rest-test.false in
    let end = c.left-end.ensures in
    let made : c.rest.self.queue.made ≡ c.args.self.now.limits.passes = was.5.made ∙ c.requires.made in
    all_recorded c.rest.self.queue (λ p l m. was.4 p l (omega arith))
