use Rattle.std.proofs.Common.{◌≡◌, ◌-◌, ◌<◌, List, [], ◌∷◌, length, Result, IfOk, IfErr, Ok, Err, sym, ap, subst, ◌∙◌, arith, rules}
use Rattle.csq_queue.proofs.Imports.{Size, number, IrpLife, FileId, held_list, InsertStatus, Event, PutBack, Refused, PassRecord, QueueState, end_of, queue_of, caught_up, with_trace, SomeRunAgrees, joined_record, pass_record, Adds, AreApart, held_count, IsPutBack, IsPassSeatOf, OpenPassState, limits_on, HoldsRemoved, MakesSteps, put_back_steps, AddsEvents, InsertAnswer}
use Rattle.csq_queue.specs.Calls.{file_at}
use Rattle.csq_queue.proofs.Leaving.{left_makes}
use Rattle.csq_queue.proofs.Opening.{own_adds, own_pass, pass_on}
use Rattle.csq_queue.proofs.Returning.{Returns, returns, of_accepted, back_some, back_counts, back_apart, pending_none}
use Rattle.csq_queue.proofs.open.queue.OpenQueue.put_back.Given.{Over}
use Rattle.csq_queue.proofs.open.queue.OpenQueue.put_back.Goals as goal
use Rattle.csq_queue.proofs.open.queue.OpenQueue.put_back.Goals.{After-leave}

pub overflow_sub-pass : goal.overflow_sub-pass
overflow_sub-pass g c =
    let w = c.args.words.now in
    let i = c.args.irp in
    let answer = c.relist_irp-back.result in
    let r = pass_record c.pass.inside.seat in
    let entered = joined_record c.enter.new.self in
    let p = pass_on c.pass.inside.seat c.pass.inside.irps c.pass.inside.passes c.pass.inside.number c.pass.inside.tokens c.pass.inside.claims w c.args.pass.now c.pass.view_is c.requires.pass c.pass.invariant.0 in
    let at_r : entered ≡ r = ap joined_record c.enter.ensures.joined in
    let held : HoldsRemoved w.size.irps r i = subst (λ (z : OpenPassState). HoldsRemoved w.size.irps z.pass i) (sym c.pass.view_is) (record { known = subst (λ (z : Size). number i < z.irps) c.requires.queue.size c.requires.held.known; held = c.requires.held.held; removed = c.requires.held.removed }) in
    let held' : HoldsRemoved w.size.irps entered i = subst (λ (z : PassRecord). HoldsRemoved w.size.irps z i) (sym at_r) held in
    let apart : AreApart w.size.irps (held_list entered.steps) = subst (λ (z : PassRecord). AreApart w.size.irps (held_list z.steps)) (sym at_r) p.held_apart in
    let h = returns w.size.irps i answer _ entered (joined_record c.relist_irp-back.new.seat) c.relist_irp-back.ensures.steps (of_accepted i _ c.args.place _ answer c.relist_irp-back.ensures.accepted) held' in
    let some = back_some w.size.irps i answer entered (joined_record c.relist_irp-back.new.seat) h held' apart in
    let tokens = p.tokens_are in
    let count = c.count_spent.ensures in
    let same = ap (λ (z : PassRecord). held_count z.steps) at_r in
    omega arith

-- the steps of a put-back, by the history that its pass has seen
made : (g : Over) (c : After-leave g) → MakesSteps (put_back_steps c.relist_irp-back.result (end_of c.args.self.now.limits.first (pass_record c.leave.new.pass).seen)) c.args.pass.now.pass (pass_record c.leave.new.pass)
made g c = subst (λ (u : QueueState). MakesSteps (put_back_steps c.relist_irp-back.result u) c.args.pass.now.pass (pass_record c.leave.new.pass)) (λ k. end_of (first_is k) (seen_is k)) left
  where
    left : MakesSteps (put_back_steps c.relist_irp-back.result (end_of c.args.words.now.size.first c.relist_irp-back.new.seat.queue.history)) c.args.pass.now.pass (pass_record c.leave.new.pass)
    left = left_makes _ c.args.pass.now.pass (pass_record c.leave.new.pass) c.enter.new.self c.relist_irp-back.new.seat (search rules) (search rules) c.relist_irp-back.ensures.steps

    first_is : c.args.words.now.size.first ≡ c.args.self.now.limits.first
    first_is = sym (ap (λ (z : Size). z.first) c.requires.queue.size)

    new_is : pass_record c.leave.new.pass ≡ caught_up (with_trace (pass_record c.leave.new.pass).trace c.relist_irp-back.new.seat.queue) (joined_record c.relist_irp-back.new.seat)
    new_is = search rules

    seen_is : c.relist_irp-back.new.seat.queue.history ≡ (pass_record c.leave.new.pass).seen
    seen_is = sym (ap (λ (z : PassRecord). z.seen) new_is)

-- what the pass held
held_before : (g : Over) (c : After-leave g) → HoldsRemoved c.args.words.now.size.irps c.args.pass.now.pass c.args.irp
held_before g c = record { known = subst (λ (z : Size). number c.args.irp < z.irps) c.requires.queue.size c.requires.held.known; held = c.requires.held.held; removed = c.requires.held.removed }

-- what it holds then
returned : (g : Over) (c : After-leave g) → Returns c.args.words.now.size.irps c.args.irp c.relist_irp-back.result c.args.pass.now.pass (pass_record c.leave.new.pass)
returned g c = returns c.args.words.now.size.irps c.args.irp c.relist_irp-back.result _ c.args.pass.now.pass (pass_record c.leave.new.pass) (made g c) (of_accepted c.args.irp _ c.args.place _ c.relist_irp-back.result c.relist_irp-back.ensures.accepted) (held_before g c)

pub invariant_of-pass : goal.invariant_of-pass
invariant_of-pass g c =
    let w = c.args.words.now in
    let n = w.size.irps in
    let i = c.args.irp in
    let answer = c.relist_irp-back.result in
    let new = pass_record c.leave.new.pass in
    let r = pass_record c.pass.inside.seat in
    let p = pass_on c.pass.inside.seat c.pass.inside.irps c.pass.inside.passes c.pass.inside.number c.pass.inside.tokens c.pass.inside.claims w c.args.pass.now c.pass.view_is c.requires.pass c.pass.invariant.0 in
    let at_r : c.args.pass.now.pass ≡ r = sym (ap (λ (z : OpenPassState). z.pass) c.pass.view_is) in
    let h : Returns n i answer r new = subst (λ (z : PassRecord). Returns n i answer z new) at_r (returned g c) in
    let held : HoldsRemoved n r i = subst (λ (z : PassRecord). HoldsRemoved n z i) at_r (held_before g c) in
    let left : IsPassSeatOf w.table n w.size.passes c.leave.new.pass c.pass.inside.number (c.pass.inside.tokens - c.count_spent.result) c.pass.inside.claims = record {
      here = search rules;
      outside = search rules;
      pass_is = h.pass ∙ p.pass_is;
      from = p.from;
      to = p.to;
      tokens_are = (λ k. p.tokens_are k - c.count_spent.ensures k) ∙ sym (back_counts n i answer r new h held p.held_apart);
      claims_are = p.claims_are ∙ ap (λ (is : List IrpLife). length is) (sym h.owing);
      held_apart = back_apart n i answer r new h held p.held_apart;
      owed_apart = subst (AreApart n) (sym h.owing) p.owed_apart;
    } in
    (own_pass c.leave.new.pass c.pass.inside.irps c.pass.inside.passes c.pass.inside.number (c.pass.inside.tokens - c.count_spent.result) c.pass.inside.claims w c.args.pass.now (search rules) c.requires.pass left, c.pass.invariant.1)

-- the events of a put-back, as its pass sees them
adds : (g : Over) (c : After-leave g) (events : List Event) → Adds (limits_on c.args.words.now (g.L.PendingList.listing c.self.inside.list)) c.enter.new.self events (g.L.PendingList.listing c.relist_irp-back.new.list) c.self.inside.kept c.relist_irp-back.new.seat
    → AddsEvents c.args.self.now.limits c.args.self.now.queue.history c.args.pass.now.pass (pass_record c.leave.new.pass) events
adds g c events a =
    own_adds c.args.words.now (g.L.PendingList.listing c.self.inside.list) c.self.inside.seat c.self.inside.back.items c.args.self.now c.self.view_is c.requires.queue
    c.args.pass.now.pass (pass_record c.leave.new.pass) c.enter.new.self c.relist_irp-back.new.seat (search rules)
    (subst (λ (z : OpenPassState). SomeRunAgrees c.args.words.now.size c.enter.new.self.queue z.pass) c.pass.view_is c.enter.ensures.agreed) (search rules) c.leave.ensures.run (search rules) events (g.L.PendingList.listing c.relist_irp-back.new.list) c.self.inside.kept a

-- the queue that the call found
found : (g : Over) (c : After-leave g) → queue_of c.enter.new.self.queue ≡ end_of c.args.self.now.limits.first c.args.self.now.queue.history
found g c = search rules

-- an accepted put-back, as its pass sees it
accepted : (g : Over) (c : After-leave g) → IfOk c.relist_irp-back.result (λ inserted. (events : List Event) × IsPutBack c.args.irp (file_at c.args.self.now.limits c.args.self.now.queue.history c.args.irp) c.args.place inserted events
    × AddsEvents c.args.self.now.limits c.args.self.now.queue.history c.args.pass.now.pass (pass_record c.leave.new.pass) events)
accepted g c = go c.relist_irp-back.result c.relist_irp-back.ensures.accepted
  where
    file_is : (queue_of c.enter.new.self.queue).file_of c.args.irp.irp ≡ file_at c.args.self.now.limits c.args.self.now.queue.history c.args.irp
    file_is = ap (λ (u : QueueState). u.file_of c.args.irp.irp) (found g c)

    go : (answer : Result (InsertAnswer IrpLife IrpLife) InsertStatus)
        → IfOk answer (λ inserted. (events : List Event) × IsPutBack c.args.irp ((queue_of c.enter.new.self.queue).file_of c.args.irp.irp) c.args.place inserted events
        × Adds (limits_on c.args.words.now (g.L.PendingList.listing c.self.inside.list)) c.enter.new.self events (g.L.PendingList.listing c.relist_irp-back.new.list) c.self.inside.kept c.relist_irp-back.new.seat)
        → IfOk answer (λ inserted. (events : List Event) × IsPutBack c.args.irp (file_at c.args.self.now.limits c.args.self.now.queue.history c.args.irp) c.args.place inserted events × AddsEvents c.args.self.now.limits c.args.self.now.queue.history c.args.pass.now.pass (pass_record c.leave.new.pass) events)
    go (Ok inserted) h = (h.0, subst (λ (f : FileId). IsPutBack c.args.irp f c.args.place inserted h.0) file_is h.1, adds g c h.0 h.2)
    go (Err cause) h = h

-- a refused one
refused : (g : Over) (c : After-leave g) → IfErr c.relist_irp-back.result (λ cause. AddsEvents c.args.self.now.limits c.args.self.now.queue.history c.args.pass.now.pass (pass_record c.leave.new.pass) (PutBack c.args.irp (file_at c.args.self.now.limits c.args.self.now.queue.history c.args.irp) c.args.place (Refused cause) ∷ []))
refused g c = subst (λ (f : FileId). IfErr c.relist_irp-back.result (λ cause. AddsEvents c.args.self.now.limits c.args.self.now.queue.history c.args.pass.now.pass (pass_record c.leave.new.pass) (PutBack c.args.irp f c.args.place (Refused cause) ∷ []))) (ap (λ (u : QueueState). u.file_of c.args.irp.irp) (found g c))
    (go c.relist_irp-back.result c.relist_irp-back.ensures.refused)
  where
    went : InsertStatus → List Event
    went cause = PutBack c.args.irp ((queue_of c.enter.new.self.queue).file_of c.args.irp.irp) c.args.place (Refused cause) ∷ []

    go : (answer : Result (InsertAnswer IrpLife IrpLife) InsertStatus)
        → IfErr answer (λ cause. Adds (limits_on c.args.words.now (g.L.PendingList.listing c.self.inside.list)) c.enter.new.self (went cause) (g.L.PendingList.listing c.relist_irp-back.new.list) c.self.inside.kept c.relist_irp-back.new.seat)
        → IfErr answer (λ cause. AddsEvents c.args.self.now.limits c.args.self.now.queue.history c.args.pass.now.pass (pass_record c.leave.new.pass) (went cause))
    go (Ok inserted) h = h
    go (Err cause) h = adds g c (went cause) h

pub returns-clause-call : goal.returns-clause-call
returns-clause-call g c =
    let w = c.args.words.now in
    let i = c.args.irp in
    let p = pass_on c.pass.inside.seat c.pass.inside.irps c.pass.inside.passes c.pass.inside.number c.pass.inside.tokens c.pass.inside.claims w c.args.pass.now c.pass.view_is c.requires.pass c.pass.invariant.0 in
    let apart : AreApart w.size.irps (held_list c.args.pass.now.pass.steps) = subst (λ (z : OpenPassState). AreApart w.size.irps (held_list z.pass.steps)) c.pass.view_is p.held_apart in
    let irps_are = sym (ap (λ (z : Size). z.irps) c.requires.queue.size) in
    let h = subst (λ n. Returns n i c.relist_irp-back.result c.args.pass.now.pass (pass_record c.leave.new.pass)) irps_are (returned g c) in
    record {
      accepted = accepted g c;
      steps = made g c;
      token = h.given;
      spent = h.spent_is;
      none_held = pending_none w.size.irps i c.relist_irp-back.result c.args.pass.now.pass (pass_record c.leave.new.pass) (returned g c) (held_before g c) apart;
      refused = refused g c;
      cause = search rules;
      kept = h.kept;
    }
