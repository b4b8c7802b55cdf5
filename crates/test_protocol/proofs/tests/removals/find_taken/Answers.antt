use Rattle.std.proofs.Common.{◌≡◌, true, refl, sym, subst}
use Rattle.irp_core.specs.declared.step.Kind.TheVariants.{End}
use Rattle.irp_core.specs.Inside.{follows}
use Rattle.irp_core.proofs.Names.{same_irp-refl}
use Rattle.irp_core.specs.Own.{inside_of}
use Rattle.csq_words.specs.Queue.{has_entry}
use Rattle.csq_words.specs.Records.{queue_of}
use Rattle.csq_words.specs.Seats.{QueueSeatState, joined_record}
use Rattle.test_protocol.proofs.tests.removals.find_taken.Goals as goal

-- the IRP is listed, and the removal may begin
pub disarm-found-requires-clause-next : goal.disarm-found-requires-clause-next
disarm-found-requires-clause-next g c = (
  refl,
  subst (λ (q : QueueSeatState). follows (inside_of (joined_record q).steps) End ≡ true) (sym c.enter.ensures.joined) (rw c.requires.outside refl),
  subst (λ (q : QueueSeatState). has_entry (queue_of q.queue).entries c.args.name ≡ true) (sym c.enter.ensures.joined) (rw (c.requires.inserted.entries_are, same_irp-refl) refl),
)
