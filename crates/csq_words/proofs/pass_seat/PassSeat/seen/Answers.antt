use Rattle.std.proofs.Common.{◌∙◌, ap, sym, arith}
use Rattle.csq_words.specs.Rule.{table_size}
use Rattle.csq_words.proofs.Prefixes.{cuts_seen_as}
use Rattle.csq_words.proofs.SeatValues.{here}
use Rattle.csq_words.proofs.pass_seat.PassSeat.seen.Goals as goal

pub split_seat-seat-requires : goal.split_seat-seat-requires
split_seat-seat-requires g c =
    let words = c.words.inside in
    let table = ap (λ w. w.table) c.words.view_is in
    let pass = here c.in-Some.is c.self.view_is c.self.invariant c.requires.words in (
      pass.0 ∙ sym table,
      omega (arith, c.words.invariant.0, c.words.invariant.2),
      cuts_seen_as (table_size words.table.shared.key) c.in-Some.seat.id c.in-Some.seat.me.0 _ pass.2,
    )
