use Rattle.std.proofs.Common.{◌∙◌, ap, sym, subst, arith, refl}
use Rattle.csq_words.proofs.Imports.{Size, View, queue_in, pass_in, table_size, HasObserved}
use Rattle.csq_words.proofs.ReuseSteps.{looks_as}
use Rattle.csq_words.proofs.SeatValues.{joined, looked}
use Rattle.csq_words.proofs.queue_seat.QueueSeat.look.Goals as goal

pub load-requires : goal.load-requires
load-requires g c =
    let words = c.words.inside in
    let queue = joined c.self.inside.seat c.self.view_is c.self.invariant c.requires.joined in
    let irps = ap (λ w. w.size.irps) c.words.view_is in (
      ap (λ z. z.table) c.self.view_is ∙ (c.requires.words ∙ sym (ap (λ w. w.table) c.words.view_is)),
      omega (arith, c.words.invariant.0, c.words.invariant.1, irps, c.requires.irp, c.place-word.ensures),
      looks_as (table_size words.table.shared.key) words.table.shared.table_id.slots c.self.inside.seat.id c.self.inside.seat.me _ _ queue c.args.irp (record { irp = c.args.irp; life = record { 0 = 0 } }) refl (omega (arith, irps, c.requires.irp)) _ refl _ c.place-word.ensures c.requires.idle,
    )

pub invariant_of-self : goal.invariant_of-self
invariant_of-self g c = (looked c.self.inside.seat c.load.new.seat c.self.view_is c.self.invariant c.requires.joined c.load.ensures.table c.load.result refl c.load.ensures.agreed).0

pub returns-clause-found : goal.returns-clause-found
returns-clause-found g c = (looked c.self.inside.seat c.load.new.seat c.self.view_is c.self.invariant c.requires.joined c.load.ensures.table c.load.result refl c.load.ensures.agreed).2.1

pub returns-clause-step : goal.returns-clause-step
returns-clause-step g c = (looked c.self.inside.seat c.load.new.seat c.self.view_is c.self.invariant c.requires.joined c.load.ensures.table c.load.result refl c.load.ensures.agreed).1

pub returns-clause-agreed : goal.returns-clause-agreed
returns-clause-agreed g c =
    let look = (looked c.self.inside.seat c.load.new.seat c.self.view_is c.self.invariant c.requires.joined c.load.ensures.table c.load.result refl c.load.ensures.agreed).2 in
    subst (λ (z : Size × View). HasObserved z.0 c.args.self.now.queue (queue_in z.1) (pass_in z.1)) (λ k. (ap (λ w. w.size) c.words.view_is k, sym (ap (λ m. m.0) look.0) k)) look.2

pub returns-clause-done : goal.returns-clause-done
returns-clause-done g c = (looked c.self.inside.seat c.load.new.seat c.self.view_is c.self.invariant c.requires.joined c.load.ensures.table c.load.result refl c.load.ensures.agreed).2.3

pub returns-clause-unset : goal.returns-clause-unset
returns-clause-unset g c = (looked c.self.inside.seat c.load.new.seat c.self.view_is c.self.invariant c.requires.joined c.load.ensures.table c.load.result refl c.load.ensures.agreed).2.4
