use Rattle.std.proofs.Common.{◌≡◌, false, List, [], ◌∷◌, Result, IfOk, IfErr, IfSome, Ok, Err, sym, ap, subst, arith, rules}
use Rattle.csq_queue.proofs.Imports.{Size, IrpLife, InsertStatus, Event, Insert, Refused, QueueState, present_in, end_of, PassRecord, queue_of, caught_up, with_trace, joined_record, pass_record, AddsEvents, IsNew, InsertAnswer, Adds, IsInsert, given_in, SomeRunAgrees, OpenPassState, limits_on, MakesSteps, insert_steps}
use Rattle.csq_queue.proofs.Leaving.{room_for, left_makes}
use Rattle.csq_queue.proofs.Opening.{on_words, own_adds, pass_on, own_new}
use Rattle.csq_queue.proofs.Giving.{insert_gives}
use Rattle.csq_queue.proofs.Spending.{cancelled_holds}
use Rattle.csq_queue.proofs.open.queue.OpenQueue.insert.Given.{Over}
use Rattle.csq_queue.proofs.open.queue.OpenQueue.insert.Goals as goal
use Rattle.csq_queue.proofs.open.queue.OpenQueue.insert.Goals.{After-leave}

pub overflow_add-pass : goal.overflow_add-pass
overflow_add-pass g c =
    let w = c.args.words.now in
    let s = g.L.PendingList.listing c.self.inside.list in
    let p = pass_on c.pass.inside.seat c.pass.inside.irps c.pass.inside.passes c.pass.inside.number c.pass.inside.tokens c.pass.inside.claims w c.args.pass.now c.pass.view_is c.requires.pass c.pass.invariant.0 in
    let most = (on_words w s c.self.inside.seat c.self.inside.back.items c.args.self.now c.self.view_is c.requires.queue c.self.inside.kept c.self.invariant).most in
    let gives = insert_gives (limits_on w s) c.list_irp-inserted.result (end_of w.size.first c.list_irp-inserted.new.seat.queue.history) (joined_record c.enter.new.self) (joined_record c.list_irp-inserted.new.seat) c.list_irp-inserted.ensures.steps c.list_irp-inserted.ensures.new in
    let room = room_for (limits_on w s) (given_in c.list_irp-inserted.result) false c.enter.new.self c.list_irp-inserted.new.seat c.pass.inside.tokens c.count_cancelled-cancelled.result c.count_cancelled-cancelled.ensures gives
    (pass_record c.pass.inside.seat) (ap joined_record c.enter.ensures.joined) p.tokens_are p.held_apart in
    omega arith

-- the events of an insert, as its pass sees them
adds : (g : Over) (c : After-leave g) (events : List Event) → Adds (limits_on c.args.words.now (g.L.PendingList.listing c.self.inside.list)) c.enter.new.self events (g.L.PendingList.listing c.list_irp-inserted.new.list) c.list_irp-inserted.new.kept c.list_irp-inserted.new.seat
    → AddsEvents c.args.self.now.limits c.args.self.now.queue.history c.args.pass.now.pass (pass_record c.leave.new.pass) events
adds g c events a =
    own_adds c.args.words.now (g.L.PendingList.listing c.self.inside.list) c.self.inside.seat c.self.inside.back.items c.args.self.now c.self.view_is c.requires.queue
    c.args.pass.now.pass (pass_record c.leave.new.pass) c.enter.new.self c.list_irp-inserted.new.seat (search rules)
    (subst (λ (z : OpenPassState). SomeRunAgrees c.args.words.now.size c.enter.new.self.queue z.pass) c.pass.view_is c.enter.ensures.agreed) (search rules) c.leave.ensures.run (search rules) events (g.L.PendingList.listing c.list_irp-inserted.new.list) c.list_irp-inserted.new.kept a

-- what is promised of an accepted insert, of the queue that it was made of
abbrev Accepted : (g : Over) (c : After-leave g) → QueueState → Type 0
Accepted g c u = IfOk c.list_irp-inserted.result (λ inserted. (events : List Event) × IsInsert (present_in u c.args.irp) c.args.file c.args.place inserted events
    × Adds (limits_on c.args.words.now (g.L.PendingList.listing c.self.inside.list)) c.enter.new.self events (g.L.PendingList.listing c.list_irp-inserted.new.list) c.list_irp-inserted.new.kept c.list_irp-inserted.new.seat)

-- an accepted insert, as its pass sees it
accepted : (g : Over) (c : After-leave g) → IfOk c.list_irp-inserted.result (λ inserted. (events : List Event) × IsInsert (present_in (end_of c.args.self.now.limits.first c.args.self.now.queue.history) c.args.irp) c.args.file c.args.place inserted events
    × AddsEvents c.args.self.now.limits c.args.self.now.queue.history c.args.pass.now.pass (pass_record c.leave.new.pass) events)
accepted g c = go c.list_irp-inserted.result (subst (λ (u : QueueState). Accepted g c u) queue_is c.list_irp-inserted.ensures.accepted)
  where
    now : QueueState
    now = end_of c.args.self.now.limits.first c.args.self.now.queue.history

    queue_is : queue_of c.enter.new.self.queue ≡ now
    queue_is = search rules

    go : (answer : Result (InsertAnswer IrpLife IrpLife) InsertStatus)
        → IfOk answer (λ inserted. (events : List Event) × IsInsert (present_in now c.args.irp) c.args.file c.args.place inserted events
        × Adds (limits_on c.args.words.now (g.L.PendingList.listing c.self.inside.list)) c.enter.new.self events (g.L.PendingList.listing c.list_irp-inserted.new.list) c.list_irp-inserted.new.kept c.list_irp-inserted.new.seat)
        → IfOk answer (λ inserted. (events : List Event) × IsInsert (present_in now c.args.irp) c.args.file c.args.place inserted events × AddsEvents c.args.self.now.limits c.args.self.now.queue.history c.args.pass.now.pass (pass_record c.leave.new.pass) events)
    go (Ok inserted) h = (h.0, h.1, adds g c h.0 h.2)
    go (Err cause) h = h

-- a refused one
refused : (g : Over) (c : After-leave g) → IfErr c.list_irp-inserted.result (λ cause. AddsEvents c.args.self.now.limits c.args.self.now.queue.history c.args.pass.now.pass (pass_record c.leave.new.pass) (Insert c.args.irp c.args.file c.args.place (Refused cause) ∷ []))
refused g c = go c.list_irp-inserted.result c.list_irp-inserted.ensures.refused
  where
    went : InsertStatus → List Event
    went cause = Insert c.args.irp c.args.file c.args.place (Refused cause) ∷ []

    go : (answer : Result (InsertAnswer IrpLife IrpLife) InsertStatus)
        → IfErr answer (λ cause. Adds (limits_on c.args.words.now (g.L.PendingList.listing c.self.inside.list)) c.enter.new.self (went cause) (g.L.PendingList.listing c.list_irp-inserted.new.list) c.list_irp-inserted.new.kept c.list_irp-inserted.new.seat)
        → IfErr answer (λ cause. AddsEvents c.args.self.now.limits c.args.self.now.queue.history c.args.pass.now.pass (pass_record c.leave.new.pass) (went cause))
    go (Ok inserted) h = h
    go (Err cause) h = adds g c (went cause) h

-- the steps of an insert, by the history that its pass has seen
made : (g : Over) (c : After-leave g) → MakesSteps (insert_steps c.list_irp-inserted.result (end_of c.args.self.now.limits.first (pass_record c.leave.new.pass).seen)) c.args.pass.now.pass (pass_record c.leave.new.pass)
made g c = subst (λ (u : QueueState). MakesSteps (insert_steps c.list_irp-inserted.result u) c.args.pass.now.pass (pass_record c.leave.new.pass)) (λ k. end_of (first_is k) (seen_is k)) left
  where
    left : MakesSteps (insert_steps c.list_irp-inserted.result (end_of c.args.words.now.size.first c.list_irp-inserted.new.seat.queue.history)) c.args.pass.now.pass (pass_record c.leave.new.pass)
    left = left_makes _ c.args.pass.now.pass (pass_record c.leave.new.pass) c.enter.new.self c.list_irp-inserted.new.seat (search rules) (search rules) c.list_irp-inserted.ensures.steps

    first_is : c.args.words.now.size.first ≡ c.args.self.now.limits.first
    first_is = sym (ap (λ (z : Size). z.first) c.requires.queue.size)

    new_is : pass_record c.leave.new.pass ≡ caught_up (with_trace (pass_record c.leave.new.pass).trace c.list_irp-inserted.new.seat.queue) (joined_record c.list_irp-inserted.new.seat)
    new_is = search rules

    seen_is : c.list_irp-inserted.new.seat.queue.history ≡ (pass_record c.leave.new.pass).seen
    seen_is = sym (ap (λ (z : PassRecord). z.seen) new_is)

new_to_it : (g : Over) (c : After-leave g) → IfSome (given_in c.list_irp-inserted.result) (IsNew c.args.self.now.limits c.args.pass.now.pass)
new_to_it g c =
    own_new c.args.words.now (g.L.PendingList.listing c.self.inside.list) c.self.inside.seat c.self.inside.back.items c.args.self.now c.self.view_is c.requires.queue
    (given_in c.list_irp-inserted.result) c.args.pass.now.pass c.enter.new.self (search rules) c.list_irp-inserted.ensures.new

pub returns-clause-call : goal.returns-clause-call
returns-clause-call g c = record {
  accepted = accepted g c;
  steps = made g c;
  new = new_to_it g c;
  token = cancelled_holds c.args.self.now.limits c.list_irp-inserted.result c.args.pass.now.pass (pass_record c.leave.new.pass)
      (insert_gives c.args.self.now.limits c.list_irp-inserted.result (end_of c.args.self.now.limits.first (pass_record c.leave.new.pass).seen) c.args.pass.now.pass (pass_record c.leave.new.pass) (made g c) (new_to_it g c));
  refused = refused g c;
  cause = search rules;
}
