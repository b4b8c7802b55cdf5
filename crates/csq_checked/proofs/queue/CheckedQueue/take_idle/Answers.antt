use Rattle.std.proofs.Common.{◌≡◌, ◌∙◌, Some, rules, ap, subst, sym}
use Rattle.csq_checked.proofs.Imports.{arc_value, slice_set, IsQueueOn, HoldsNothing, AreIdle, CheckedState, CheckedPassState, slot_at}
use Rattle.csq_checked.specs.contracts.queue.CheckedQueue.{the_view}
use Rattle.csq_checked.proofs.Idling.{idle_without, on_any, put_same}
use Rattle.csq_checked.proofs.queue.CheckedQueue.take_idle.Goals as goal

pub invariant_of-self : goal.invariant_of-self
invariant_of-self c = record {
  on = c.self.invariant.on;
  rest = c.self.invariant.rest;
  idle_are = subst (AreIdle (arc_value c.self.inside.words)) (sym c.take.ensures.left) (idle_without _ _ c.self.invariant.idle_are c.args.at (search rules));
}

pub into_box-requires : goal.into_box-requires
into_box-requires c =
    let its : IsQueueOn (arc_value c.args.words) c.self.inside.queue = subst (λ (q : CheckedState). IsQueueOn (arc_value c.args.words) q.queue) (sym c.self.view_is) c.requires.words in
    on_any (arc_value c.self.inside.words) (arc_value c.args.words) c.self.inside.queue c.in-Some.pass c.self.invariant.on its
    (c.self.invariant.idle_are.each c.args.at c.in-Some.pass (sym c.take.ensures.taken ∙ c.in-Some.is)).on

pub returns-in-Ok-clause-again : goal.returns-in-Ok-clause-again
returns-in-Ok-clause-again c =
    let there : slot_at c.self.inside.idle c.args.at ≡ Some c.in-Some.pass = sym c.take.ensures.taken ∙ c.in-Some.is in
    record {
      slot = c.args.at;
      first = c.requires.first;
      pass = c.in-Some.pass;
      there = search rules;
      again = search rules;
      nothing = subst HoldsNothing (sym (ap (λ (p : CheckedPassState). p.pass) c.in-Ok.ensures.boxed)) (c.self.invariant.idle_are.each c.args.at c.in-Some.pass there).nothing;
      queue = search rules;
    }

-- the pass is in its slot again
restored : (c : goal.After-put) → c.put.new.self ≡ c.self.inside.idle
restored c =
    c.put.ensures ∙ (ap (λ idle. slice_set idle c.args.at (Some c.in-Err.pass)) c.take.ensures.left ∙ put_same c.self.inside.idle c.args.at c.in-Err.pass (search rules))

pub invariant_of-self-in-Err : goal.invariant_of-self-in-Err
invariant_of-self-in-Err c = record {
  on = c.self.invariant.on;
  rest = c.self.invariant.rest;
  idle_are = subst (AreIdle (arc_value c.self.inside.words)) (sym (restored c)) c.self.invariant.idle_are;
}

pub returns-in-Err-clause-kept : goal.returns-in-Err-clause-kept
returns-in-Err-clause-kept c =
    ap (λ idle. the_view (record { words = c.self.inside.words; queue = c.self.inside.queue; rack = c.self.inside.rack; idle = idle })) (restored c) ∙ c.self.view_is
