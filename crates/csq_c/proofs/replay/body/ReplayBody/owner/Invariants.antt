use Rattle.std.proofs.Common.{◌≡◌, ◌≤◌, false, List}
use Rattle.irp_core.specs.declared.ids.PassId.{PassId}
use Rattle.irp_core.specs.declared.step.Made.{Made}
use Rattle.irp_core.specs.Lives.{present}
use Rattle.irp_core.specs.MachineState.{Agrees, size_of}
use Rattle.irp_core.specs.Owners.{owes}
use Rattle.csq_c.proofs.replay.body.ReplayBody.owner.Given as goal

-- none of the passes so far owes it
abbrev pub invariant-loop-before : goal.invariant-loop-before
invariant-loop-before l = (E : List Made) → Agrees l.self.machine E → (p : PassId) → 1 ≤ p.0 → p.0 ≤ l.before → owes E p (present (size_of l.self.machine).first E l.irp) ≡ false
