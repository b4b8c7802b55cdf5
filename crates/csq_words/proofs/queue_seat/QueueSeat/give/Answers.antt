use Rattle.std.proofs.Common.{◌∙◌, ap, sym, arith}
use Rattle.csq_words.specs.Rule.{table_size}
use Rattle.csq_words.proofs.Keeping.{goes_back_as}
use Rattle.csq_words.proofs.SeatValues.{joined}
use Rattle.csq_words.proofs.queue_seat.QueueSeat.give.Goals as goal

pub split_seat-requires : goal.split_seat-requires
split_seat-requires g c =
    let words = c.words.inside in
    let queue = joined c.self.inside.seat c.self.view_is c.self.invariant c.requires.joined in (
      ap (λ z. z.table) c.self.view_is ∙ (c.requires.words ∙ sym (ap (λ w. w.table) c.words.view_is)),
      omega (arith, c.words.invariant.0, c.words.invariant.2),
      goes_back_as (table_size words.table.shared.key) c.self.inside.seat.id c.self.inside.seat.me.0 _ _ queue c.requires.ended c.requires.idle,
    )
