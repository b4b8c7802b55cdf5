use Rattle.std.proofs.Common.{◌≡◌, true, ◌∷◌, refl, sym, ap, ◌∙◌, subst}
use Rattle.csq_queue.proofs.Imports.{IrpLife, Listing, Out, due_mark, after_step, present_in, queue_of, with_trace, owes_in, SomeRunAgrees, QueueSeatState, joined_record, with_view, irp_eq, limits_on, Adds}
use Rattle.irp_core.specs.declared.step.Kind.TheVariants.{Out as StepOut}
use Rattle.csq_words.specs.declared.calls.Call.TheVariants.{CancelRoutine}
use Rattle.csq_queue.proofs.Searching.{with_made}
use Rattle.csq_queue.proofs.Ones.{one_known, owed_now, owed_is_listed, owed_out}
use Rattle.csq_queue.proofs.protocol.take_owed.Given.{Over}
use Rattle.csq_queue.proofs.protocol.take_owed.Goals as goal
use Rattle.csq_queue.proofs.protocol.take_owed.Goals.{After-remove}

pub note-requires-clause-may : goal.note-requires-clause-may
note-requires-clause-may g c =
    let z = c.args.seat.now in
    let i = c.args.irp in
    let known = one_known c.requires.entered i (g.met.L.PendingList.sound c.args.list.now) (owed_is_listed c.requires.entered i c.requires.owed) in
    let now : i ≡ present_in (queue_of z.queue) i.irp = irp_eq i (present_in (queue_of z.queue) i.irp) refl (owed_now c.requires.entered i c.requires.owed) in
    (known, (refl, c.requires.entered.outside, subst (λ (j : IrpLife). owes_in (joined_record z).steps j ≡ true) now c.requires.owed))

-- the seat after the note
noted : (g : Over) (c : After-remove g) → c.note.new.self ≡ with_made (StepOut c.args.irp) 0 (Out c.args.irp ∷ due_mark c.args.irp (queue_of c.args.seat.now.queue)) c.note.new.self.queue.trace c.args.seat.now
noted g c =
    let z = c.args.seat.now in
    let i = c.args.irp in
    let now : i ≡ present_in (queue_of z.queue) i.irp = irp_eq i (present_in (queue_of z.queue) i.irp) refl (owed_now c.requires.entered i c.requires.owed) in
    c.note.ensures.noted ∙ (λ k. with_view (after_step (CancelRoutine i.irp) (StepOut (sym now k)) 0 (with_trace c.note.new.self.queue.trace z.queue) (joined_record z)) z)

pub remove-requires : goal.remove-requires
remove-requires g c = owed_is_listed c.requires.entered c.args.irp c.requires.owed

pub returns-clause-adds : goal.returns-clause-adds
returns-clause-adds g c =
    let v = c.args.kept.now in
    let new = Out c.args.irp ∷ due_mark c.args.irp (queue_of c.args.seat.now.queue) in
    let is = noted g c in
    let out = owed_out c.requires.entered c.args.irp c.note.new.self.queue.trace c.requires.owed (subst (λ (z : QueueSeatState). SomeRunAgrees c.args.words.now.size z.queue (joined_record z)) is (c.note.new.self.queue.trace, c.note.ensures.agreed.call.agreed)) in
    subst (λ (z : Listing × QueueSeatState). Adds (limits_on c.args.words.now (g.L.PendingList.listing c.args.list.now)) c.args.seat.now new z.0 v z.1) (λ k. (sym c.remove.ensures k, sym is k)) out

pub returns-clause-steps : goal.returns-clause-steps
returns-clause-steps g c = ap (λ (z : QueueSeatState). (joined_record z).steps) (noted g c)

pub returns-clause-known : goal.returns-clause-known
returns-clause-known g c =
    one_known c.requires.entered c.args.irp (g.met.L.PendingList.sound c.args.list.now) (owed_is_listed c.requires.entered c.args.irp c.requires.owed)
