use Rattle.std.proofs.Common.{◌∙◌, ap, sym, subst, arith, refl}
use Rattle.csq_words.proofs.Imports.{Size, View, queue_in, pass_in, with_trace, table_size, MayNote, after_note, ObservesNote, joined_record}
use Rattle.csq_words.proofs.LockedSteps.{notes_as, note_has}
use Rattle.csq_words.proofs.SeatValues.{joined, stepped}
use Rattle.csq_words.proofs.queue_seat.QueueSeat.note.Goals as goal

pub load-requires : goal.load-requires
load-requires g c =
    let words = c.words.inside in
    let queue = joined c.self.inside.seat c.self.view_is c.self.invariant c.requires.joined in
    let may = subst (λ n. MayNote n c.args.call c.args.note c.args.self.now.queue (joined_record c.args.self.now)) (sym (ap (λ w. w.size.irps) c.words.view_is)) c.requires.may in (
      ap (λ z. z.table) c.self.view_is ∙ (c.requires.words ∙ sym (ap (λ w. w.table) c.words.view_is)),
      omega (arith, c.words.invariant.0, c.words.invariant.2),
      notes_as (table_size words.table.shared.key) words.table.shared.table_id.slots c.self.inside.seat.id c.self.inside.seat.me _ _ c.args.call c.args.note queue _ refl may,
    )

pub invariant_of-self : goal.invariant_of-self
invariant_of-self g c =
    (stepped c.self.inside.seat c.load.new.seat (λ a b. after_note c.args.call c.args.note (with_trace (queue_in c.load.new.seat.me.0).trace a) b) c.self.view_is c.self.invariant c.requires.joined c.load.ensures.table (λ a b. note_has c.args.call c.args.note (with_trace (queue_in c.load.new.seat.me.0).trace a) b) c.load.ensures.agreed.0).0

pub returns-clause-noted : goal.returns-clause-noted
returns-clause-noted g c =
    (stepped c.self.inside.seat c.load.new.seat (λ a b. after_note c.args.call c.args.note (with_trace (queue_in c.load.new.seat.me.0).trace a) b) c.self.view_is c.self.invariant c.requires.joined c.load.ensures.table (λ a b. note_has c.args.call c.args.note (with_trace (queue_in c.load.new.seat.me.0).trace a) b) c.load.ensures.agreed.0).1

pub returns-clause-agreed : goal.returns-clause-agreed
returns-clause-agreed g c =
    let x = c.load.ensures.agreed in
    let was = joined c.self.inside.seat c.self.view_is c.self.invariant c.requires.joined in
    subst (λ (z : Size × View × View). ObservesNote z.0 c.args.call (queue_in z.1) (queue_in z.2) (pass_in z.2)) (λ k. (ap (λ w. w.size) c.words.view_is k, was k, sym (ap (λ m. m.0) x.0) k)) x.1
