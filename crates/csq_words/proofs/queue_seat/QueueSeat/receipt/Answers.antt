use Rattle.std.proofs.Common.{◌∙◌, ap, sym, arith}
use Rattle.csq_words.specs.Rule.{table_size}
use Rattle.csq_words.proofs.Receipts.{last_receipt_as, some_newest}
use Rattle.csq_words.proofs.SeatValues.{alone}
use Rattle.csq_words.proofs.queue_seat.QueueSeat.receipt.Goals as goal

pub split_seat-seat-requires : goal.split_seat-seat-requires
split_seat-seat-requires g c =
    let words = c.words.inside in
    let queue = alone c.self.inside.seat c.self.view_is c.self.invariant c.requires.alone in
    let last = some_newest c.args.self.now.queue.back c.requires.back in (
      ap (λ z. z.table) c.self.view_is ∙ (c.requires.words ∙ sym (ap (λ w. w.table) c.words.view_is)),
      omega (arith, c.words.invariant.0, c.words.invariant.2),
      last_receipt_as (table_size words.table.shared.key) c.self.inside.seat.id c.self.inside.seat.me.0 _ last.0 queue last.1,
    )
