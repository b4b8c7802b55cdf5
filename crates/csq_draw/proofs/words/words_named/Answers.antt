use Rattle.std.proofs.Common.{◌≡◌, Option, sym, subst, IfSome}
use Rattle.irp_core.specs.declared.ids.Life.{Life}
use Rattle.irp_core.specs.declared.standing.IrpPlace.{IrpPlace}
use Rattle.irp_core.specs.Completion.{IsPlace}
use Rattle.irp_core.specs.Lives.{present, present_life}
use Rattle.irp_core.specs.MachineState.{size_of}
use Rattle.csq_draw.proofs.OwnerLaws.{words_reported}
use Rattle.csq_draw.proofs.words.words_named.Goals as goal

pub returns : goal.returns
returns g c = λ E agrees has.
    let size = size_of c.args.machine.now in
    let i = c.in_ok-irp.field-0 in
    let L : Option Life → Type 0 = λ o. IfSome o (λ life. life.0 ≡ present_life size.first E i.irp) in
    let P : Option IrpPlace → Type 0 = λ o. IfSome o (IsPlace E (present size.first E i.irp)) in
    words_reported size E agrees.run c.args.kind i (sym c.in_ok-irp.ensures) c.unwrap-life.result (subst L c.unwrap-life.ensures (c.life.ensures.life E agrees))
    c.cancelled.result (c.cancelled.ensures E agrees) c.unwrap-place.result (subst P c.unwrap-place.ensures (c.place.ensures.place E agrees)) c.args.owner has c.routine_at.result c.routine_at.ensures
