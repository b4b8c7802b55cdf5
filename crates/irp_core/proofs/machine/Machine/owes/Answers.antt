use Rattle.std.proofs.Common.{◌≡◌, ◌∙◌, subst, sym}
use Rattle.irp_core.proofs.Imports.{owes, present, MachineState, Agrees}
use Rattle.irp_core.proofs.Agreeing.{agrees_reflects}
use Rattle.irp_core.proofs.Resting.{state_owed}
use Rattle.irp_core.proofs.machine.Machine.owes.Goals as goal

pub returns : goal.returns
returns g c = λ E a.
    let seen = agrees_reflects _ E (subst (λ (b : MachineState). Agrees b E) (sym c.self.view_is) a) in
    subst (λ (b : MachineState). c.owes.result ≡ owes E c.args.pass (present b.first.0 E c.args.irp)) c.self.view_is (c.owes.ensures ∙ state_owed _ E seen c.args.irp c.args.pass)
