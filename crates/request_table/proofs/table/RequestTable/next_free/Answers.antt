use Rattle.std.proofs.Common.{◌≡◌, ◌<◌, length, Option, IfSome, slice_get, refl, sym, subst, arith}
use Rattle.std.proofs.lemmas.Grind.{common_steps}
use Rattle.irp_core.specs.declared.ids.IrpId.{IrpId}
use Rattle.request_table.specs.declared.stage.Stage.TheVariants.{Free}
use Rattle.request_table.specs.Requests.{Requests, IsSound, stage_of}
use Rattle.request_table.proofs.Keeping.{next-free}
use Rattle.request_table.proofs.table.RequestTable.next_free.Goals as goal

pub returns-clause-known : goal.returns-clause-known
returns-clause-known g c =
    let r = c.args.self.now in
    let is : c.copied.result ≡ slice_get r.free 0 = grind (arith, common_steps) in
    let sound : IsSound r = subst (λ (t : Requests). IsSound t) c.self.view_is c.self.invariant.sound in
    subst (λ (o : Option IrpId). IfSome o (λ i. i.0 < length r.stages)) (sym is) (next-free r r.free sound refl).0

pub returns-clause-free : goal.returns-clause-free
returns-clause-free g c =
    let r = c.args.self.now in
    let is : c.copied.result ≡ slice_get r.free 0 = grind (arith, common_steps) in
    let sound : IsSound r = subst (λ (t : Requests). IsSound t) c.self.view_is c.self.invariant.sound in
    subst (λ (o : Option IrpId). IfSome o (λ i. stage_of r i ≡ Free)) (sym is) (next-free r r.free sound refl).1
