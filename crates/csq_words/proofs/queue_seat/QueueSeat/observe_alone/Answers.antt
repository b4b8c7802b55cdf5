use Rattle.std.proofs.Common.{◌∙◌, ap, sym, subst, arith, refl}
use Rattle.csq_words.proofs.Imports.{Size, QueueRecord, queue_in, table_size, RuleHoldsWith}
use Rattle.csq_words.proofs.Observing.{observes_queue_as}
use Rattle.csq_words.proofs.SeatValues.{alone}
use Rattle.csq_words.proofs.queue_seat.QueueSeat.observe_alone.Goals as goal

pub load-requires : goal.load-requires
load-requires g c =
    let words = c.words.inside in
    let queue = alone c.self.inside.seat c.self.view_is c.self.invariant c.requires.alone in (
      ap (λ z. z.table) c.self.view_is ∙ (c.requires.words ∙ sym (ap (λ w. w.table) c.words.view_is)),
      omega (arith, c.words.invariant.0, c.words.invariant.2),
      observes_queue_as (table_size words.table.shared.key) words.table.shared.table_id.slots c.self.inside.seat.id c.self.inside.seat.me _ queue _ refl,
    )

pub returns-clause-rule : goal.returns-clause-rule
returns-clause-rule g c = subst (λ (z : Size × QueueRecord). RuleHoldsWith z.0 z.1) (λ k. (ap (λ w. w.size) c.words.view_is k, sym (ap (λ m. queue_in m.0) c.load.ensures.agreed.0) k)) c.load.ensures.agreed.2
