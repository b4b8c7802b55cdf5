use Rattle.std.proofs.Common.{◌≡◌, ◌+◌, ◌-◌, ◌<◌, ◌∷◌, true, false, ap, subst, sym, ◌∙◌, arith, rules}
use Rattle.csq_queue.proofs.Imports.{Size, number, Out, due_mark, QueueState, end_of, AddsEvents, owes_in, removed_in, held_list, owed_list, queue_of, with_step, joined_record, pass_record, has_life, AreApart, held_count, owed_count, IsPassSeatOf}
use Rattle.irp_core.specs.declared.step.Kind.TheVariants.{Out as StepOut}
use Rattle.csq_queue.proofs.Counting.{out_owed, out_none_owed, out_held_apart, out_owed_apart, out_room}
use Rattle.csq_queue.proofs.Spending.{out_holds}
use Rattle.csq_queue.proofs.Owning.{owed_no_other, owed_not_removed}
use Rattle.csq_queue.proofs.Opening.{on_words, own_adds, own_pass, pass_on}
use Rattle.csq_queue.proofs.open.queue.OpenQueue.cancel_routine.Goals as goal

pub overflow_sub-pass : goal.overflow_sub-pass
overflow_sub-pass g c =
    let r = pass_record c.pass.inside.seat in
    let p = pass_on c.pass.inside.seat c.pass.inside.irps c.pass.inside.passes c.pass.inside.number c.pass.inside.tokens c.pass.inside.claims c.args.words.now c.args.pass.now c.pass.view_is c.requires.pass c.pass.invariant.0 in
    let owed : owes_in r.steps c.args.irp ≡ true = search rules in
    let new : has_life (held_list r.steps) c.args.irp.irp ≡ false = owed_no_other _ _ r c.args.irp c.enter.ensures.agreed owed in
    let some = out_owed c.args.words.now.size.irps r.pass c.args.irp r.steps c.take_owed.ensures.known owed new p.held_apart p.owed_apart in
    let claims = p.claims_are in
    omega arith

pub overflow_add-pass : goal.overflow_add-pass
overflow_add-pass g c =
    let r = pass_record c.pass.inside.seat in
    let p = pass_on c.pass.inside.seat c.pass.inside.irps c.pass.inside.passes c.pass.inside.number c.pass.inside.tokens c.pass.inside.claims c.args.words.now c.args.pass.now c.pass.view_is c.requires.pass c.pass.invariant.0 in
    let owed : owes_in r.steps c.args.irp ≡ true = search rules in
    let new : has_life (held_list r.steps) c.args.irp.irp ≡ false = owed_no_other _ _ r c.args.irp c.enter.ensures.agreed owed in
    let room = out_room c.args.words.now.size.irps r.pass c.args.irp r.steps c.take_owed.ensures.known owed new p.held_apart p.owed_apart in
    let tokens = p.tokens_are in
    let most = (on_words c.args.words.now (g.L.PendingList.listing c.self.inside.list) c.self.inside.seat c.self.inside.back.items c.args.self.now c.self.view_is c.requires.queue c.self.inside.kept c.self.invariant).most in
    omega arith

pub invariant_of-pass : goal.invariant_of-pass
invariant_of-pass g c =
    let n = c.args.words.now.size.irps in
    let r = pass_record c.pass.inside.seat in
    let p = pass_on c.pass.inside.seat c.pass.inside.irps c.pass.inside.passes c.pass.inside.number c.pass.inside.tokens c.pass.inside.claims c.args.words.now c.args.pass.now c.pass.view_is c.requires.pass c.pass.invariant.0 in
    let owed : owes_in r.steps c.args.irp ≡ true = search rules in
    let new : has_life (held_list r.steps) c.args.irp.irp ≡ false = owed_no_other _ _ r c.args.irp c.enter.ensures.agreed owed in
    let steps : (pass_record c.leave.new.pass).steps ≡ (with_step (StepOut c.args.irp) 0 r).steps = ap (λ p. (pass_record p).steps) c.leave.ensures.pass ∙ (c.take_owed.ensures.steps ∙ ap (λ s. (with_step (StepOut c.args.irp) 0 (joined_record s)).steps) c.enter.ensures.joined) in
    let paid = out_owed n r.pass c.args.irp r.steps c.take_owed.ensures.known owed new p.held_apart p.owed_apart in
    let tokens = p.tokens_are in
    let claims = p.claims_are in
    let held_now = ap held_count steps in
    let owed_now = ap owed_count steps in
    let left : IsPassSeatOf c.args.words.now.table n c.args.words.now.size.passes c.leave.new.pass c.pass.inside.number (c.pass.inside.tokens + 1) (c.pass.inside.claims - 1) = record {
      here = search rules;
      outside = search rules;
      pass_is = search rules;
      from = p.from;
      to = p.to;
      tokens_are = omega arith;
      claims_are = omega arith;
      held_apart = subst (λ s. AreApart n (held_list s)) (sym steps) (out_held_apart n r.pass c.args.irp r.steps c.take_owed.ensures.known owed new p.held_apart p.owed_apart);
      owed_apart = subst (λ s. AreApart n (owed_list s)) (sym steps) (out_owed_apart n r.pass c.args.irp r.steps c.take_owed.ensures.known owed new p.held_apart p.owed_apart);
    } in
    (own_pass c.leave.new.pass c.pass.inside.irps c.pass.inside.passes c.pass.inside.number (c.pass.inside.tokens + 1) (c.pass.inside.claims - 1) c.args.words.now c.args.pass.now (search rules) c.requires.pass left, c.pass.invariant.1)

pub returns-clause-call : goal.returns-clause-call
returns-clause-call g c =
    let n = c.args.words.now.size.irps in
    let i = c.args.irp in
    let r = pass_record c.pass.inside.seat in
    let p = pass_on c.pass.inside.seat c.pass.inside.irps c.pass.inside.passes c.pass.inside.number c.pass.inside.tokens c.pass.inside.claims c.args.words.now c.args.pass.now c.pass.view_is c.requires.pass c.pass.invariant.0 in
    let owed : owes_in r.steps i ≡ true = search rules in
    let new : has_life (held_list r.steps) i.irp ≡ false = owed_no_other _ _ r i c.enter.ensures.agreed owed in
    let steps : (pass_record c.leave.new.pass).steps ≡ (with_step (StepOut i) 0 r).steps = ap (λ p. (pass_record p).steps) c.leave.ensures.pass ∙ (c.take_owed.ensures.steps ∙ ap (λ s. (with_step (StepOut i) 0 (joined_record s)).steps) c.enter.ensures.joined) in
    let queue_is : queue_of c.enter.new.self.queue ≡ end_of c.args.self.now.limits.first c.args.self.now.queue.history = search rules in
    record {
      call = subst (λ (u : QueueState). AddsEvents c.args.self.now.limits c.args.self.now.queue.history c.args.pass.now.pass (pass_record c.leave.new.pass) (Out i ∷ due_mark i u)) queue_is
          (own_adds c.args.words.now (g.L.PendingList.listing c.self.inside.list) c.self.inside.seat c.self.inside.back.items c.args.self.now c.self.view_is c.requires.queue
          c.args.pass.now.pass (pass_record c.leave.new.pass) c.enter.new.self c.take_owed.new.seat (search rules) (search rules) (search rules) c.leave.ensures.run (search rules) _ _ _ c.take_owed.ensures.adds);
      step = search rules;
      token = out_holds c.args.self.now.limits i r (pass_record c.leave.new.pass) (subst (λ (z : Size). number i < z.irps) (sym c.requires.queue.size) c.take_owed.ensures.known) steps;
      cancelled = ap (λ m. removed_in m i) steps ∙ owed_not_removed _ _ r i c.enter.ensures.agreed owed;
      none_owed = ap (λ m. has_life (owed_list m) i.irp) steps ∙ out_none_owed n r.pass i r.steps c.take_owed.ensures.known owed new p.held_apart p.owed_apart;
    }
