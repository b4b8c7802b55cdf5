use Rattle.std.proofs.Common.{◌∙◌, ap, sym, arith, refl}
use Rattle.csq_words.specs.Rule.{table_size}
use Rattle.csq_words.proofs.Observing.{observes_both_as}
use Rattle.csq_words.proofs.SeatValues.{joined}
use Rattle.csq_words.proofs.queue_seat.QueueSeat.observe_both.Goals as goal

pub load-requires : goal.load-requires
load-requires g c =
    let words = c.words.inside in
    let queue = joined c.self.inside.seat c.self.view_is c.self.invariant c.requires.joined in (
      ap (λ z. z.table) c.self.view_is ∙ (c.requires.words ∙ sym (ap (λ w. w.table) c.words.view_is)),
      omega (arith, c.words.invariant.0, c.words.invariant.2),
      observes_both_as (table_size words.table.shared.key) words.table.shared.table_id.slots c.self.inside.seat.id c.self.inside.seat.me _ _ queue c.requires.ended _ refl,
    )
