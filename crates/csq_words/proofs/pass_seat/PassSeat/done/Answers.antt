use Rattle.std.proofs.Common.{◌∙◌, ap, sym, arith, refl}
use Rattle.csq_words.specs.Rule.{table_size}
use Rattle.csq_words.proofs.PassSteps.{completes_as}
use Rattle.csq_words.proofs.SeatValues.{here}
use Rattle.csq_words.proofs.pass_seat.PassSeat.done.Goals as goal

pub swap-requires : goal.swap-requires
swap-requires g c =
    let words = c.words.inside in
    let table = ap (λ w. w.table) c.words.view_is in
    let irps = ap (λ w. w.size.irps) c.words.view_is in
    let pass = here c.in-Some.is c.self.view_is c.self.invariant c.requires.words in (
      pass.0 ∙ sym table,
      omega (arith, c.words.invariant.0, c.words.invariant.1, irps, c.requires.irp, c.place-word.ensures),
      completes_as (table_size words.table.shared.key) words.table.shared.table_id.slots c.in-Some.seat.id c.in-Some.seat.me _ pass.2 c.args.irp _ refl (omega (arith, irps, c.requires.irp)) _ c.status-status.result _ _ _ refl refl c.place-word.ensures c.words.invariant.4 (omega arith) c.status_word-completed.ensures c.requires.outside c.requires.held (λ e. c.status-status.ensures ∙ c.requires.due e),
    )
