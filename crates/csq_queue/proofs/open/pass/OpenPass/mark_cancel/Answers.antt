use Rattle.std.proofs.Common.{◌≢◌, ◌+◌, ap, ◌∙◌, sym, subst, refl, arith, rules}
use Rattle.csq_queue.proofs.Imports.{life_of, Flag, Take, saw, with_step, pass_record, bit_word, bit_in, named, IsPassSeatOf, OpenPassState, EndsWithTake}
use Rattle.csq_queue.proofs.Opening.{own_pass, pass_on}
use Rattle.csq_queue.proofs.Passing.{IsMark, marked_room, marked_pass, marked_is, marked_ends, marked_owes, missed_pass, missed_is, missed_ends}
use Rattle.csq_queue.proofs.open.pass.OpenPass.mark_cancel.Given.{Over}
use Rattle.csq_queue.proofs.open.pass.OpenPass.mark_cancel.Goals as goal
use Rattle.csq_queue.proofs.open.pass.OpenPass.mark_cancel.Goals.{After-take}

-- what the pass held and owed as the call began
own : (g : Over) (c : After-take g) → IsPassSeatOf c.args.words.now.table c.args.words.now.size.irps c.args.words.now.size.passes c.self.inside.seat c.self.inside.number c.self.inside.tokens c.self.inside.claims
own g c = pass_on c.self.inside.seat c.self.inside.irps c.self.inside.passes c.self.inside.number c.self.inside.tokens c.self.inside.claims c.args.words.now c.args.self.now c.self.view_is c.requires c.self.invariant.0

-- it set the flag of the life named, and then exchanged the routine
mark : (g : Over) (c : After-take g) → IsMark c.args.words.now.table c.args.words.now.size (named c.args.irp c.args.life) c.self.inside.seat c.flag.new.self c.take.new.self c.flag.result c.take.result
mark g c = record {
  known = let known = c.requires.irps in let inside = c.if-irp-self.false in let irps = ap (λ (z : OpenPassState). z.irps) c.self.view_is in omega arith;
  flagged = search rules;
  agreed = c.flag.ensures.agreed;
  now = sym (ap (λ z. z.0.0) c.flag_read.ensures) ∙ c.if-found-life.false;
  taken = search rules;
  last = c.take.ensures.last;
}

pub returns-then-take-set-clause-call : goal.returns-then-take-set-clause-call
returns-then-take-set-clause-call g c =
    let w = c.args.words.now in
    let i = named c.args.irp c.args.life in
    let new = c.take.new.self in
    let p = own g c.before in
    let m = mark g c.before in
    let other : c.take.result ≢ bit_word (life_of i) 1 = λ e. c.if-take-set.true (e ∙ sym c.bit_word-set.ensures) in
    record {
      known = λ _. m.known;
      step = (
        bit_in c.flag.result,
        missed_is w.size new p m other
            ∙ ap (λ (z : OpenPassState). saw (pass_record new).trace (with_step (Take i) 0 (with_step (Flag i) (bit_in c.flag.result) z.pass))) c.self.view_is,
        subst (λ (z : OpenPassState). EndsWithTake w.size i (bit_in c.flag.result) 0 z.pass (pass_record new)) c.self.view_is
            (missed_ends w.size new p m other),
      );
      claimed = tt;
      missed = λ _. missed_pass w.size new p m other;
      refused = tt;
    }

pub overflow_add-self : goal.overflow_add-self
overflow_add-self g c =
    let w = c.args.words.now in
    let new = c.take.new.self in
    let p = own g c.before in
    let m = mark g c.before in
    let room = marked_room w.size new p m (c.if-take-set.false ∙ c.bit_word-set.ensures) in
    let most = c.self.invariant.1 in
    let irps = c.requires.irps in
    let same = ap (λ (z : OpenPassState). z.irps) c.self.view_is in
    omega arith

pub invariant_of-self-2 : goal.invariant_of-self-2
invariant_of-self-2 g c =
    let w = c.args.words.now in
    let new = c.take.new.self in
    let p = own g c.before.before in
    let m = mark g c.before.before in (
      own_pass new c.self.inside.irps c.self.inside.passes c.self.inside.number c.self.inside.tokens (c.self.inside.claims + 1) w c.args.self.now (search rules) c.requires
          (marked_pass w.size new p m (c.if-take-set.false ∙ c.bit_word-set.ensures)),
      c.self.invariant.1,
    )

pub returns-clause-call : goal.returns-clause-call
returns-clause-call g c =
    let w = c.args.words.now in
    let i = named c.args.irp c.args.life in
    let new = c.take.new.self in
    let p = own g c.before.before in
    let m = mark g c.before.before in
    let set = c.if-take-set.false ∙ c.bit_word-set.ensures in
    record {
      known = λ _. m.known;
      step = (
        bit_in c.flag.result,
        marked_is w.size new p m set
            ∙ ap (λ (z : OpenPassState). saw (pass_record new).trace (with_step (Take i) 1 (with_step (Flag i) (bit_in c.flag.result) z.pass))) c.self.view_is,
        subst (λ (z : OpenPassState). EndsWithTake w.size i (bit_in c.flag.result) 1 z.pass (pass_record new)) c.self.view_is
            (marked_ends w.size new p m set),
      );
      claimed = (refl, marked_owes w.size new p m set);
      missed = search rules;
      refused = tt;
    }
