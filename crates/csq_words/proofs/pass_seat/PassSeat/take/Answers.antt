use Rattle.std.proofs.Common.{◌∙◌, ap, sym, arith, refl}
use Rattle.csq_words.specs.Rule.{table_size}
use Rattle.csq_words.proofs.PassSteps.{takes_as}
use Rattle.csq_words.proofs.SeatValues.{here}
use Rattle.csq_words.proofs.pass_seat.PassSeat.take.Goals as goal

pub compare_exchange-requires : goal.compare_exchange-requires
compare_exchange-requires g c =
    let words = c.words.inside in
    let table = ap (λ w. w.table) c.words.view_is in
    let irps = ap (λ w. w.size.irps) c.words.view_is in
    let pass = here c.in-Some.is c.self.view_is c.self.invariant c.requires.words in (
      pass.0 ∙ sym table,
      omega (arith, c.words.invariant.0, c.words.invariant.1, irps, c.requires.irp, c.place-word.ensures),
      takes_as (table_size words.table.shared.key) words.table.shared.table_id.slots c.in-Some.seat.id c.in-Some.seat.me _ pass.2 c.args.irp _ refl (omega (arith, irps, c.requires.irp)) _ _ _ _ refl c.place-word.ensures c.bit_word-set.ensures c.bit_word-clear.ensures c.requires.flagged,
    )
