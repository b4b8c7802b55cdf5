use Rattle.std.proofs.Common.{◌≡◌, ◌∙◌, None, refl, ap, sym, arith}
use Rattle.csq_words.proofs.Imports.{view_of, with_shown, shown_by, table_size, pass_record}
use Rattle.csq_words.proofs.Receipts.{shows_as, shown_receipt_as}
use Rattle.csq_words.proofs.SeatValues.{receipt_here, alone}
use Rattle.csq_words.proofs.queue_seat.QueueSeat.show.Goals as goal

pub join_seat-requires : goal.join_seat-requires
join_seat-requires g c =
    let words = c.words.inside in
    let table = ap (λ w. w.table) c.words.view_is in
    let receipt = receipt_here (sym c.take.ensures.value ∙ c.in-Some.is) c.receipt.view_is c.receipt.invariant c.requires.receipt in
    let queue = alone c.self.inside.seat c.self.view_is c.self.invariant c.requires.alone in (
      ap (λ z. z.table) c.self.view_is ∙ (c.requires.words ∙ sym table),
      receipt.0 ∙ sym table,
      receipt.1,
      omega (arith, c.words.invariant.0, c.words.invariant.2),
      shows_as (table_size words.table.shared.key) c.self.inside.seat.id c.in-Some.seat.id c.self.inside.seat.me.0 c.in-Some.seat.me.0 _ _ queue receipt.2,
    )

pub split_seat-requires : goal.split_seat-requires
split_seat-requires g c =
    let words = c.words.inside in
    let table = ap (λ w. w.table) c.words.view_is in
    let receipt = receipt_here (sym c.take.ensures.value ∙ c.in-Some.is) c.receipt.view_is c.receipt.invariant c.requires.receipt in
    let queue = alone c.self.inside.seat c.self.view_is c.self.invariant c.requires.alone in
    let r = pass_record c.args.receipt.now in
    let q = with_shown r c.args.self.now.queue in
    let joined = c.join_seat.ensures in
    let both : c.join_seat.new.seat.me.0 ≡ view_of q None = ap (λ m. m.0) joined.2 ∙ (λ k. shown_by (queue k) (receipt.2 k)) in (
      joined.0 ∙ (ap (λ z. z.table) c.self.view_is ∙ (c.requires.words ∙ sym table)),
      omega (arith, c.words.invariant.0, c.words.invariant.2),
      shown_receipt_as (table_size words.table.shared.key) c.join_seat.new.seat.id c.join_seat.new.seat.me.0 q r both refl,
    )
