use Rattle.std.proofs.Common.{◌≡◌, false, ap, inl, inr, sym, ◌∙◌, subst}
use Rattle.csq_replay.proofs.Imports.{same_pass, present, size_of, IrpPlace, IsPlace}
use Rattle.irp_core.specs.declared.standing.IrpPlace.TheVariants.{HeldBy}
use Rattle.csq_replay.proofs.Calling.{held_there, place_holds}
use Rattle.csq_replay.proofs.script.driver.Driver.holds.Goals as goal

pub returns-in-HeldBy : goal.returns-in-HeldBy
unfolding same_pass
returns-in-HeldBy g c = λ E a.
    let i = present (size_of c.args.self.now.machine).first E c.args.irp in
    let there : IsPlace E i c.unwrap.result = rw c.unwrap.ensures at (c.place.ensures.place E a) in
    let place = subst (λ (p : IrpPlace). IsPlace E i p) c.in-HeldBy.is there in
    c.eq.ensures ∙ place_holds _ E a.run i (HeldBy c.in-HeldBy.pass) place

pub returns-in-Home : goal.returns-in-Home
returns-in-Home g c = λ E a.
    let i = present (size_of c.args.self.now.machine).first E c.args.irp in
    let there : IsPlace E i c.unwrap.result = rw c.unwrap.ensures at (c.place.ensures.place E a) in
    let other : held_there c.unwrap.result ≡ false = elim c.in-Home.is [ inl e ↦ ap held_there e | inr x ↦ elim x [ inl e ↦ ap held_there e | inr y ↦ ap held_there y.2 ] ] in
    sym other ∙ place_holds _ E a.run i c.unwrap.result there
