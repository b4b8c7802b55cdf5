use Rattle.std.proofs.Common.{◌-◌, ◌<◌, length, rules, subst, sym}
use Rattle.csq_checked.proofs.Imports.{arc_value, AreIdle, IsIdle, CheckedState, IsPassIn, open_state}
use Rattle.csq_checked.proofs.Idling.{idle_with, in_slot}
use Rattle.csq_checked.proofs.queue.CheckedQueue.put_idle.Goals as goal

-- the pass fits its slot
fits : (c : goal.After-put) → (c.number.result - 1 < length c.self.inside.idle) × IsIdle (arc_value c.self.inside.words) (c.number.result - 1) (open_state c.args.pass.value)
fits c =
    in_slot (arc_value c.self.inside.words) c.self.inside.queue c.self.inside.idle c.args.pass.value c.number.result
    c.self.invariant.on c.self.invariant.idle_are
    (subst (λ (q : CheckedState). IsPassIn q.queue c.args.pass.value) (sym c.self.view_is) c.requires.on)
    (search rules) (search rules) (search rules) c.requires.nothing

pub invariant_of-self : goal.invariant_of-self
invariant_of-self c = record {
  on = c.self.invariant.on;
  rest = c.self.invariant.rest;
  idle_are = subst (AreIdle (arc_value c.self.inside.words)) (search rules) (idle_with _ _ c.self.invariant.idle_are (c.number.result - 1) (fits c).0 (open_state c.args.pass.value) (fits c).1);
}

pub returns : goal.returns
returns c = record {
  pass = open_state c.args.pass.value;
  same = search rules;
  slot = c.number.result - 1;
  numbered = (fits c).1.numbered;
  known = search rules;
  queue = search rules;
}
