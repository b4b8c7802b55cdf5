use Rattle.std.proofs.Common.{◌≡◌, true, refl, sym, subst}
use Rattle.std.specs.Prelude.{Option}
use Rattle.irp_core.proofs.Names.{same_irp-refl}
use Rattle.irp_core.specs.Own.{holds_in}
use Rattle.csq_words.specs.Queue.{present_in}
use Rattle.csq_words.specs.Records.{queue_of}
use Rattle.csq_words.specs.Seats.{QueueSeatState, PassSeatState, pass_record, joined_record}
use Rattle.test_protocol.proofs.tests.cancels.finish.Goals as goal

-- what the cancel routine took out is held
pub done-requires-clause-held : goal.done-requires-clause-held
done-requires-clause-held g c =
    let present : present_in (queue_of c.enter.new.self.queue) record { 0 = 0 } ≡ c.args.name = sym (subst (λ (q : QueueSeatState). c.args.name ≡ present_in (queue_of q.queue) record { 0 = 0 }) (sym c.enter.ensures.joined) c.requires.present) in
    subst (λ (p : Option PassSeatState). holds_in (pass_record p).steps c.args.name ≡ true) (sym c.leave.ensures.pass)
    (subst (λ (q : QueueSeatState). holds_in (joined_record q).steps c.args.name ≡ true) (sym c.note.ensures.noted) (rw (present, same_irp-refl) refl))
