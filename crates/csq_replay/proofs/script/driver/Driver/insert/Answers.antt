use Rattle.std.proofs.Common.{refl, ap, ◌∙◌, arith, ◌∷◌, []}
use Rattle.csq_replay.proofs.Imports.{Arm, Test, Disarm, CANCELLED, same_irp-refl, same_pass-refl, Listing, is_listed, listed-put, next_step, present_of, completing, doing, cancels_insert}
use Rattle.csq_words.specs.declared.views.InsertReply.TheVariants as reply
use Rattle.csq_words.specs.declared.views.Event.TheVariants as event
use Rattle.csq_replay.proofs.Going.{present_is, made_as, may_as}
use Rattle.csq_replay.proofs.Inserting.{refused_keeps, arm_may, test_may, pending_keeps, disarm_may, taken_keeps, cancel_reply, known}
use Rattle.csq_replay.proofs.Calling.{irps_are}
use Rattle.csq_replay.proofs.Handing.{handed_on}
use Rattle.csq_replay.proofs.script.driver.Driver.insert.Goals as goal

pub returns-in_err-insert_ex : goal.returns-in_err-insert_ex
returns-in_err-insert_ex g c = λ l s k. rw (handed_on _ _ c.from_residual.ensures.1) (refused_keeps l _ s k c.args.irp c.args.file c.args.place c.in_err-insert_ex.field-0.0 c.in_err-insert_ex.ensures.cause _ c.in_err-insert_ex.ensures.err)

pub present-name-requires : goal.present-name-requires
present-name-requires g c = let (l, s, k) = c.requires in known l _ s k c.args.irp c.args.file c.args.place c.in_ok-insert_ex.ensures.cause

pub index_mut-requires : goal.index_mut-requires
index_mut-requires g c =
    let (l, s, k) = c.requires in
    omega (arith, known l _ s k c.args.irp c.args.file c.args.place c.in_ok-insert_ex.ensures.cause, irps_are l _ s k, k.files_size)

pub make-requires : goal.make-requires
make-requires g c =
    let (l, s, k) = c.requires in
    let e = c.present-name.ensures s.run k.agrees ∙ present_is l _ s k c.args.irp in
    may_as _ Arm _ _ e (arm_may l _ s k c.args.irp c.args.file c.args.place c.in_ok-insert_ex.ensures.cause)

pub make-requires-2 : goal.make-requires-2
make-requires-2 g c =
    let (l, s, k) = c.requires in
    let e = c.present-name.ensures s.run k.agrees ∙ present_is l _ s k c.args.irp in
    let a1 = (made_as _ _ s.run Arm _ _ e (c.make.ensures.made s.run k.agrees)).0 in
    may_as _ Test _ _ e (test_may l _ s k c.args.irp c.args.file c.args.place c.in_ok-insert_ex.ensures.cause _ a1 c.make.ensures.size)

pub returns-then-make-eq0 : goal.returns-then-make-eq0
returns-then-make-eq0 g c = λ l s k.
    let i = present_of s c.args.irp in
    let e = c.present-name.ensures s.run k.agrees ∙ present_is l _ s k c.args.irp in
    let a1 = (made_as _ _ s.run Arm _ i e (c.make.ensures.made s.run k.agrees)).0 in
    let a2 = made_as _ _ (next_step s.run (Arm i)) Test _ i e (c.make-2.ensures.made (next_step s.run (Arm i)) a1) in
    pending_keeps l _ s k c.args.irp c.args.file c.args.place c.in_ok-insert_ex.ensures.cause _ a1 c.make.ensures.size _ a2.0 c.make-2.ensures.size _ a2.1 _ c.in_ok-insert_ex.ensures.ok _ refl c.if-make-eq0.true

pub make-requires-3 : goal.make-requires-3
make-requires-3 g c =
    let (l, s, k) = c.requires in
    let i = present_of s c.args.irp in
    let e = c.present-name.ensures s.run k.agrees ∙ present_is l _ s k c.args.irp in
    let a1 = (made_as _ _ s.run Arm _ i e (c.make.ensures.made s.run k.agrees)).0 in
    let a2 = made_as _ _ (next_step s.run (Arm i)) Test _ i e (c.make-2.ensures.made (next_step s.run (Arm i)) a1) in
    may_as _ Disarm _ _ e (disarm_may l _ s k c.args.irp c.args.file c.args.place c.in_ok-insert_ex.ensures.cause _ a1 c.make.ensures.size _ a2.0 c.make-2.ensures.size _ a2.1 _ c.in_ok-insert_ex.ensures.ok _ refl c.if-make-eq0.false)

pub remove-requires : goal.remove-requires
remove-requires g c = ap (λ (s : Listing). is_listed s.entries c.args.irp) c.in_ok-insert_ex.ensures.ok ∙ listed-put c.args.place (record { irp = c.args.irp; file = c.args.file }) _

pub finish-requires : goal.finish-requires
finish-requires g c =
    let (l, s, k) = c.requires in
    let n = c.args.irp in
    let i = present_of s n in
    let accepted = c.in_ok-insert_ex.ensures.cause in
    let e = c.present-name.ensures s.run k.agrees ∙ present_is l _ s k n in
    let a1 = (made_as _ _ s.run Arm _ i e (c.make.ensures.made s.run k.agrees)).0 in
    let a2 = made_as _ _ (next_step s.run (Arm i)) Test _ i e (c.make-2.ensures.made (next_step s.run (Arm i)) a1) in
    let a3 = made_as _ _ (next_step (next_step s.run (Arm i)) (Test i)) Disarm _ i e (c.make-3.ensures.made (next_step (next_step s.run (Arm i)) (Test i)) a2.0) in
    let taken = taken_keeps l _ s k n c.args.file c.args.place accepted _ a1 c.make.ensures.size _ a2.0 c.make-2.ensures.size _ a2.1 _ c.in_ok-insert_ex.ensures.ok _ refl c.if-make-eq0.false _ a3.0 c.make-3.ensures.size _ c.remove.ensures in
    let u = doing (Arm i ∷ Test i ∷ Disarm i ∷ []) (event.Insert n c.args.file c.args.place reply.Cancelled) s in
    (l, u, taken, omega (arith, known l _ s k n c.args.file c.args.place accepted, irps_are l _ s k), rw (same_irp-refl, same_pass-refl) refl)

pub returns : goal.returns
returns g c = λ l s k.
    let n = c.args.irp in
    let i = present_of s n in
    let accepted = c.in_ok-insert_ex.ensures.cause in
    let e = c.present-name.ensures s.run k.agrees ∙ present_is l _ s k n in
    let a1 = (made_as _ _ s.run Arm _ i e (c.make.ensures.made s.run k.agrees)).0 in
    let a2 = made_as _ _ (next_step s.run (Arm i)) Test _ i e (c.make-2.ensures.made (next_step s.run (Arm i)) a1) in
    let a3 = made_as _ _ (next_step (next_step s.run (Arm i)) (Test i)) Disarm _ i e (c.make-3.ensures.made (next_step (next_step s.run (Arm i)) (Test i)) a2.0) in
    let taken = taken_keeps l _ s k n c.args.file c.args.place accepted _ a1 c.make.ensures.size _ a2.0 c.make-2.ensures.size _ a2.1 _ c.in_ok-insert_ex.ensures.ok _ refl c.if-make-eq0.false _ a3.0 c.make-3.ensures.size _ c.remove.ensures in
    let u = doing (Arm i ∷ Test i ∷ Disarm i ∷ []) (event.Insert n c.args.file c.args.place reply.Cancelled) s in (
      completing i CANCELLED u,
      cancels_insert n c.args.file c.args.place (cancel_reply l _ s k n c.args.file c.args.place accepted _ a1 c.make.ensures.size _ a2.0 c.make-2.ensures.size _ a2.1 _ c.in_ok-insert_ex.ensures.ok _ refl c.if-make-eq0.false _ a3.0 c.make-3.ensures.size _ c.remove.ensures),
      rw c.cancelled.ensures at (c.finish.ensures l u taken),
    )
