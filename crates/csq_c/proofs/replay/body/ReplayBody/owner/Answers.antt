use Rattle.std.proofs.Common.{◌≡◌, ◌+◌, List, false, length, ap, subst, arith}
use Rattle.irp_core.specs.declared.step.Made.{Made}
use Rattle.irp_core.specs.Lives.{present}
use Rattle.irp_core.specs.MachineState.{MachineState, Agrees, size_of}
use Rattle.irp_core.specs.Owners.{owes}
use Rattle.csq_c.specs.Replays.{ReplayState, run_of}
use Rattle.csq_c.proofs.Replaying.{none_more}
use Rattle.csq_c.proofs.replay.body.ReplayBody.owner.Goals as goal

pub loop-before-preserved : goal.loop-before-preserved
loop-before-preserved c = λ E a.
    let n = c.loop-before.before in
    let owed = subst (λ (m : MachineState). (E : List Made) → Agrees m E → c.owes.result ≡ owes E (record { 0 = n + 1 }) (present (size_of m).first E c.args.irp))
    (ap (λ (s : ReplayState). s.machine) c.self.view_is) c.owes.ensures in
    none_more (λ p. owes E p (present (size_of c.args.self.now.machine).first E c.args.irp)) n (c.loop-before.invariant E a) (subst (λ b. b ≡ false) (owed E a) c.if-owes.false)

pub returns : goal.returns
returns c = λ W f p from to.
    c.loop-before.invariant (run_of W) f.agrees p from
    (omega (arith, to, c.loop-before-test.false, c.passes-before-end.ensures, ap (λ (s : ReplayState). length s.machine.insides) c.self.view_is))
