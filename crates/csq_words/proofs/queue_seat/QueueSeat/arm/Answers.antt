use Rattle.std.proofs.Common.{◌∙◌, ap, sym, arith, refl}
use Rattle.csq_words.specs.Rule.{table_size}
use Rattle.csq_words.proofs.LockedSteps.{arms_as}
use Rattle.csq_words.proofs.SeatValues.{joined, made_found, made_seat, made_agreed}
use Rattle.csq_words.proofs.queue_seat.QueueSeat.arm.Goals as goal

pub swap-requires : goal.swap-requires
swap-requires g c =
    let words = c.words.inside in
    let queue = joined c.self.inside.seat c.self.view_is c.self.invariant c.requires.joined in
    let irps = ap (λ w. w.size.irps) c.words.view_is in (
      ap (λ z. z.table) c.self.view_is ∙ (c.requires.words ∙ sym (ap (λ w. w.table) c.words.view_is)),
      omega (arith, c.words.invariant.0, c.words.invariant.1, irps, c.requires.irp, c.place-word.ensures),
      arms_as (table_size words.table.shared.key) words.table.shared.table_id.slots c.self.inside.seat.id c.self.inside.seat.me _ _ queue c.args.call _ c.args.irp (omega (arith, irps, c.requires.irp)) _ refl _ _ c.place-word.ensures c.bit_word-set.ensures refl c.requires.next,
    )

pub invariant_of-self : goal.invariant_of-self
invariant_of-self g c =
    (made_seat c.args.call refl c.self.inside.seat c.swap.new.seat c.swap.result c.self.view_is c.self.invariant c.requires.joined c.swap.ensures.table c.swap.ensures.agreed).0

pub returns-clause-found : goal.returns-clause-found
returns-clause-found g c =
    (made_found c.args.call refl c.self.inside.seat c.swap.new.seat c.swap.result c.self.view_is c.self.invariant c.requires.joined c.swap.ensures.table c.swap.ensures.agreed).0

pub returns-clause-life : goal.returns-clause-life
returns-clause-life g c =
    (made_found c.args.call refl c.self.inside.seat c.swap.new.seat c.swap.result c.self.view_is c.self.invariant c.requires.joined c.swap.ensures.table c.swap.ensures.agreed).1

pub returns-clause-step : goal.returns-clause-step
returns-clause-step g c =
    (made_seat c.args.call refl c.self.inside.seat c.swap.new.seat c.swap.result c.self.view_is c.self.invariant c.requires.joined c.swap.ensures.table c.swap.ensures.agreed).1

pub returns-clause-agreed : goal.returns-clause-agreed
returns-clause-agreed g c =
    made_agreed c.args.call refl c.self.inside.seat c.swap.new.seat c.swap.result c.self.view_is c.self.invariant c.requires.joined c.swap.ensures.table c.swap.ensures.agreed _ (ap (λ w. w.size) c.words.view_is)
