use Rattle.std.proofs.Common.{◌∙◌, ap, sym, arith, refl}
use Rattle.csq_words.specs.Rule.{table_size}
use Rattle.csq_words.proofs.Reading.{reads_status_as}
use Rattle.csq_words.proofs.SeatValues.{here}
use Rattle.csq_words.proofs.pass_seat.PassSeat.read_status.Goals as goal

pub load-found-requires : goal.load-found-requires
load-found-requires g c =
    let words = c.words.inside in
    let table = ap (λ w. w.table) c.words.view_is in
    let irps = ap (λ w. w.size.irps) c.words.view_is in
    let pass = here c.in-Some.is c.self.view_is c.self.invariant c.requires.words in (
      pass.0 ∙ sym table,
      omega (arith, c.words.invariant.0, c.words.invariant.1, irps, c.requires.irp, c.place-word.ensures),
      reads_status_as (table_size words.table.shared.key) words.table.shared.table_id.slots c.in-Some.seat.id c.in-Some.seat.me _ c.args.irp (record { irp = c.args.irp; life = record { 0 = 0 } }) pass.2 refl (omega (arith, irps, c.requires.irp)) _ refl _ c.place-word.ensures,
    )
