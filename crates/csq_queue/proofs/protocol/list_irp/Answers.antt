use Rattle.std.proofs.Common.{◌≡◌, [], ◌∷◌, None, Ok, inl, inr, refl, sym, ap, ◌∙◌, subst, rules}
use Rattle.csq_queue.proofs.Imports.{IrpLife, Limits, QueueSeatState, Arm, Disarm, Listing, is_listed, listed-put, FlagSeen, Mark, Insert, Pending, Cancelled, after_step, refusal, end_of, queue_of, with_trace, joined_record, with_view, bit_in, limits_on, MakesSteps, insert_steps, IsNew}
use Rattle.csq_words.specs.declared.calls.Call.TheVariants.{Insert as InsertCall}
use Rattle.csq_queue.specs.declared.tokens.InsertAnswer.TheVariants as answer
use Rattle.csq_queue.proofs.Presence.{present_is}
use Rattle.csq_queue.proofs.Inserting.{it, armed, disarmed, accepted_irp, insert_pending, insert_missed, insert_cancelled, pending_makes, missed_makes, cancelled_makes, cancelled_new}
use Rattle.csq_queue.proofs.protocol.list_irp.Given.{Over}
use Rattle.csq_queue.proofs.protocol.list_irp.Goals as goal
use Rattle.csq_queue.proofs.protocol.list_irp.Goals.{After-test, After-disarm}

-- the insert has armed the IRP and tested its flag
module _ (g : Over) (c : After-test g) where
  abbrev old : QueueSeatState
  old = c.args.seat.now

  abbrev limits : Limits
  limits = limits_on c.args.words.now (g.L.PendingList.listing c.args.list.now)

  abbrev name : IrpLife
  name = it old c.args.irp

  accepted : refusal limits (queue_of old.queue) c.args.irp c.args.file ≡ None
  accepted = search rules

  named : c.present-present.result ≡ name
  named = present_is limits (g.L.PendingList.listing c.args.list.now) c.args.kept.now (queue_of old.queue) c.requires.entered.list_is c.args.irp c.present-present.result (accepted_irp limits (queue_of old.queue) c.args.irp c.args.file accepted).0 c.present-present.ensures

  to_armed : c.arm.new.self ≡ armed c.args.irp c.args.file c.args.place (bit_in c.arm.result) c.arm.new.self.queue.trace old
  to_armed = c.arm.ensures.step ∙ (λ k. with_view (after_step (InsertCall c.args.irp c.args.file c.args.place) (Arm (named k)) (bit_in c.arm.result) (with_trace c.arm.new.self.queue.trace old.queue) (joined_record old)) old)

  routine_clear : bit_in c.arm.result ≡ 0
  routine_clear = c.arm.ensures.found

pub is_set-requires-2 : goal.is_set-requires-2
is_set-requires-2 g c = search rules

-- the flag was set, and it has made its exchange
to_disarmed : (g : Over) (c : After-disarm g) → c.disarm.new.self ≡ disarmed c.args.irp (it c.args.seat.now c.args.irp) c.args.file c.args.place (bit_in c.disarm.result) c.disarm.new.self.queue.trace c.test.new.self
to_disarmed g c = c.disarm.ensures.step ∙ (λ k. with_view (after_step (InsertCall c.args.irp c.args.file c.args.place) (Disarm (named g (goal.at.is_set-requires-2 g c).After-test k)) (bit_in c.disarm.result) (with_trace c.disarm.new.self.queue.trace c.test.new.self.queue) (joined_record c.test.new.self)) c.test.new.self)

pub returns-then-not-is_set-clause-accepted : goal.returns-then-not-is_set-clause-accepted
returns-then-not-is_set-clause-accepted g c =
    let t = (goal.at.returns-then-not-is_set-clause-accepted g c).After-test in (
      Insert c.args.irp c.args.file c.args.place Pending ∷ [],
      (named g t, inl refl),
      insert_pending c.requires.entered c.args.irp c.args.file c.args.place (accepted g t) (g.L.PendingList.listing c.insert_ex.new.self) (search rules) c.set_file.new.self c.set_file.ensures (bit_in c.arm.result) c.arm.new.self c.test.new.self (to_armed g t) (bit_in c.test.result) (c.is_set.ensures.clear c.if-not-is_set.true) c.test.ensures.step (c.test.new.self.queue.trace, c.test.ensures.agreed.call.agreed),
    )

pub returns-then-not-is_set-2-clause-accepted : goal.returns-then-not-is_set-2-clause-accepted
returns-then-not-is_set-2-clause-accepted g c =
    let t = (goal.at.returns-then-not-is_set-2-clause-accepted g c).After-test in
    let d = (goal.at.returns-then-not-is_set-2-clause-accepted g c).After-disarm in (
      Mark (name g t) ∷ Insert c.args.irp c.args.file c.args.place Pending ∷ [],
      (named g t, inr refl),
      insert_missed c.requires.entered c.args.irp c.args.file c.args.place (accepted g t) (g.L.PendingList.listing c.insert_ex.new.self) (search rules) c.set_file.new.self c.set_file.ensures (bit_in c.arm.result) c.arm.new.self c.test.new.self (to_armed g t) (bit_in c.test.result) (c.is_set.ensures.set c.if-not-is_set.false) c.test.ensures.step c.disarm.new.self (bit_in c.disarm.result) (c.is_set-2.ensures.clear c.if-not-is_set-2.true) (to_disarmed g d) (c.disarm.new.self.queue.trace, c.disarm.ensures.agreed.call.agreed),
    )

pub returns-clause-accepted : goal.returns-clause-accepted
returns-clause-accepted g c =
    let t = (goal.at.returns-clause-accepted g c).After-test in
    let d = (goal.at.returns-clause-accepted g c).After-disarm in (
      Insert c.args.irp c.args.file c.args.place Cancelled ∷ FlagSeen (name g t) ∷ [],
      (named g t, refl),
      insert_cancelled c.requires.entered c.args.irp c.args.file c.args.place (accepted g t) (g.L.PendingList.listing c.insert_ex.new.self) (search rules) c.set_file.new.self c.set_file.ensures (bit_in c.arm.result) c.arm.new.self c.test.new.self (to_armed g t) (bit_in c.test.result) (c.is_set.ensures.set c.if-not-is_set.false) c.test.ensures.step c.disarm.new.self (g.met.L.PendingList.sound c.args.list.now) (g.L.PendingList.listing c.remove.new.self) c.remove.ensures (bit_in c.disarm.result) (c.is_set-2.ensures.set c.if-not-is_set-2.false) (to_disarmed g d) (c.disarm.new.self.queue.trace, c.disarm.ensures.agreed.call.agreed),
    )

pub returns-then-not-is_set-clause-steps : goal.returns-then-not-is_set-clause-steps
returns-then-not-is_set-clause-steps g c =
    let t = (goal.at.returns-then-not-is_set-clause-steps g c).After-test in
    subst (λ (i : IrpLife). MakesSteps (insert_steps (Ok (answer.Pending i)) (end_of (limits g t).first c.test.new.self.queue.history)) (joined_record (old g t)) (joined_record c.test.new.self)) (sym (named g t))
    (pending_makes c.requires.entered c.args.irp c.args.file c.args.place (accepted g t) (g.met.L.PendingList.sound c.args.list.now) (bit_in c.arm.result) (routine_clear g t) c.arm.new.self c.test.new.self (to_armed g t) (bit_in c.test.result) (c.is_set.ensures.clear c.if-not-is_set.true) c.test.ensures.step)

pub returns-then-not-is_set-2-clause-steps : goal.returns-then-not-is_set-2-clause-steps
returns-then-not-is_set-2-clause-steps g c =
    let t = (goal.at.returns-then-not-is_set-2-clause-steps g c).After-test in
    let d = (goal.at.returns-then-not-is_set-2-clause-steps g c).After-disarm in
    subst (λ (i : IrpLife). MakesSteps (insert_steps (Ok (answer.Pending i)) (end_of (limits g t).first c.disarm.new.self.queue.history)) (joined_record (old g t)) (joined_record c.disarm.new.self)) (sym (named g t))
    (missed_makes c.requires.entered c.args.irp c.args.file c.args.place (accepted g t) (g.met.L.PendingList.sound c.args.list.now) (bit_in c.arm.result) (routine_clear g t) c.arm.new.self c.test.new.self (to_armed g t) (bit_in c.test.result) (c.is_set.ensures.set c.if-not-is_set.false) c.test.ensures.step c.disarm.new.self (bit_in c.disarm.result) (c.is_set-2.ensures.clear c.if-not-is_set-2.true) (to_disarmed g d))

pub returns-clause-steps : goal.returns-clause-steps
returns-clause-steps g c =
    let t = (goal.at.returns-clause-steps g c).After-test in
    let d = (goal.at.returns-clause-steps g c).After-disarm in
    subst (λ (i : IrpLife). MakesSteps (insert_steps (Ok (answer.Cancelled i)) (end_of (limits g t).first c.disarm.new.self.queue.history)) (joined_record (old g t)) (joined_record c.disarm.new.self)) (sym (named g t))
    (cancelled_makes c.requires.entered c.args.irp c.args.file c.args.place (accepted g t) (g.met.L.PendingList.sound c.args.list.now) (bit_in c.arm.result) (routine_clear g t) c.arm.new.self c.test.new.self (to_armed g t) (bit_in c.test.result) (c.is_set.ensures.set c.if-not-is_set.false) c.test.ensures.step c.disarm.new.self (bit_in c.disarm.result) (c.is_set-2.ensures.set c.if-not-is_set-2.false) (to_disarmed g d))

pub returns-clause-new : goal.returns-clause-new
returns-clause-new g c =
    let t = (goal.at.returns-clause-new g c).After-test in
    let d = (goal.at.returns-clause-new g c).After-disarm in
    subst (λ (i : IrpLife). IsNew (limits g t) (joined_record (old g t)) i) (sym (named g t))
    (cancelled_new c.requires.entered c.args.irp c.args.file c.args.place (accepted g t) (g.met.L.PendingList.sound c.args.list.now) (bit_in c.arm.result) (routine_clear g t) c.arm.new.self c.test.new.self (to_armed g t) (bit_in c.test.result) (c.is_set.ensures.set c.if-not-is_set.false) c.test.ensures.step c.disarm.new.self (bit_in c.disarm.result) (c.is_set-2.ensures.set c.if-not-is_set-2.false) (to_disarmed g d) (c.disarm.new.self.queue.trace, c.disarm.ensures.agreed.call.agreed))

pub remove-requires : goal.remove-requires
remove-requires g c =
    ap (λ (s : Listing). is_listed s.entries c.args.irp) c.in_default.ensures.ok
    ∙ listed-put c.args.place (record { irp = c.args.irp; file = c.args.file }) (g.L.PendingList.listing c.args.list.now).entries
