use Rattle.std.proofs.Common.{◌≡◌, ◌+◌, true, IfSome, ap, subst, arith, rules}
use Rattle.csq_queue.proofs.Imports.{QueueState, end_of, queue_of, joined_record, pass_record, limits_on, MakesSteps, remove_next_steps, IsNew}
use Rattle.csq_queue.proofs.Leaving.{room_for, left_makes, left_pass}
use Rattle.csq_queue.proofs.Opening.{on_words, own_adds, pass_on, own_new, own_pass}
use Rattle.csq_queue.proofs.Giving.{remove_next_gives}
use Rattle.csq_queue.proofs.Spending.{removed_holds}
use Rattle.csq_queue.proofs.open.queue.OpenQueue.remove_next.Given.{Over}
use Rattle.csq_queue.proofs.open.queue.OpenQueue.remove_next.Goals as goal
use Rattle.csq_queue.proofs.open.queue.OpenQueue.remove_next.Goals.{After-leave}

pub overflow_add-pass : goal.overflow_add-pass
overflow_add-pass g c =
    let w = c.args.words.now in
    let s = g.L.PendingList.listing c.self.inside.list in
    let p = pass_on c.pass.inside.seat c.pass.inside.irps c.pass.inside.passes c.pass.inside.number c.pass.inside.tokens c.pass.inside.claims w c.args.pass.now c.pass.view_is c.requires.pass c.pass.invariant.0 in
    let most = (on_words w s c.self.inside.seat c.self.inside.back.items c.args.self.now c.self.view_is c.requires.queue c.self.inside.kept c.self.invariant).most in
    let gives = remove_next_gives (limits_on w s) c.args.peek c.take_match-taken.result (queue_of c.enter.new.self.queue) (joined_record c.enter.new.self) (joined_record c.take_match-taken.new.seat) c.take_match-taken.ensures.steps c.take_match-taken.ensures.new in
    let room = room_for (limits_on w s) c.take_match-taken.result true c.enter.new.self c.take_match-taken.new.seat c.pass.inside.tokens c.count.result c.count.ensures gives
    (pass_record c.pass.inside.seat) (ap joined_record c.enter.ensures.joined) p.tokens_are p.held_apart in
    omega arith

pub invariant_of-pass : goal.invariant_of-pass
invariant_of-pass g c =
    let w = c.args.words.now in
    let l = limits_on w (g.L.PendingList.listing c.self.inside.list) in
    let p = pass_on c.pass.inside.seat c.pass.inside.irps c.pass.inside.passes c.pass.inside.number c.pass.inside.tokens c.pass.inside.claims w c.args.pass.now c.pass.view_is c.requires.pass c.pass.invariant.0 in
    let gives = remove_next_gives l c.args.peek c.take_match-taken.result (queue_of c.enter.new.self.queue) (joined_record c.enter.new.self) (joined_record c.take_match-taken.new.seat) c.take_match-taken.ensures.steps c.take_match-taken.ensures.new in
    let left = left_pass l c.take_match-taken.result true c.enter.new.self c.take_match-taken.new.seat c.pass.inside.tokens c.count.result c.count.ensures gives
    w.table c.pass.inside.seat c.leave.new.pass c.pass.inside.number c.pass.inside.claims (ap joined_record c.enter.ensures.joined) c.leave.ensures.pass c.take_match-taken.ensures.outside p in
    (own_pass c.leave.new.pass c.pass.inside.irps c.pass.inside.passes c.pass.inside.number (c.pass.inside.tokens + c.count.result) c.pass.inside.claims w c.args.pass.now (search rules) c.requires.pass left, c.pass.invariant.1)

-- the steps of the removal, by the history that it found
made : (g : Over) (c : After-leave g) → MakesSteps (remove_next_steps c.args.peek c.take_match-taken.result (end_of c.args.self.now.limits.first c.args.self.now.queue.history)) c.args.pass.now.pass (pass_record c.leave.new.pass)
made g c = subst (λ (u : QueueState). MakesSteps (remove_next_steps c.args.peek c.take_match-taken.result u) c.args.pass.now.pass (pass_record c.leave.new.pass)) queue_is
    (left_makes _ c.args.pass.now.pass (pass_record c.leave.new.pass) c.enter.new.self c.take_match-taken.new.seat (search rules) (search rules) c.take_match-taken.ensures.steps)
  where
    queue_is : queue_of c.enter.new.self.queue ≡ end_of c.args.self.now.limits.first c.args.self.now.queue.history
    queue_is = search rules

new_to_it : (g : Over) (c : After-leave g) → IfSome c.take_match-taken.result (IsNew c.args.self.now.limits c.args.pass.now.pass)
new_to_it g c =
    own_new c.args.words.now (g.L.PendingList.listing c.self.inside.list) c.self.inside.seat c.self.inside.back.items c.args.self.now c.self.view_is c.requires.queue
    c.take_match-taken.result c.args.pass.now.pass c.enter.new.self (search rules) c.take_match-taken.ensures.new

pub returns-clause-call : goal.returns-clause-call
returns-clause-call g c = record {
  call = (
    c.take_match-taken.ensures.adds.0,
    own_adds c.args.words.now (g.L.PendingList.listing c.self.inside.list) c.self.inside.seat c.self.inside.back.items c.args.self.now c.self.view_is c.requires.queue
        c.args.pass.now.pass (pass_record c.leave.new.pass) c.enter.new.self c.take_match-taken.new.seat (search rules) (search rules) (search rules) c.leave.ensures.run (search rules) _ _ _ c.take_match-taken.ensures.adds.1,
  );
  steps = made g c;
  new = new_to_it g c;
  token = removed_holds c.args.self.now.limits c.take_match-taken.result c.args.pass.now.pass (pass_record c.leave.new.pass)
      (remove_next_gives c.args.self.now.limits c.args.peek c.take_match-taken.result (end_of c.args.self.now.limits.first c.args.self.now.queue.history) c.args.pass.now.pass (pass_record c.leave.new.pass) (made g c) (new_to_it g c));
}
