use Rattle.std.proofs.Common.{◌≡◌, List, filter}
use Rattle.csq_replay.proofs.Imports.{Made, Agrees, size_of, IrpId, present, irps_below, is_kept}
use Rattle.csq_replay.proofs.script.remains.kept_irps.Given as goal

-- the IRPs so far that are kept so
abbrev pub invariant-loop-number : goal.invariant-loop-number
invariant-loop-number g l = (E : List Made) → Agrees l.driver.machine E → l.irps.items ≡ filter (λ (n : IrpId). is_kept l.kept E (present (size_of l.driver.machine).first E n)) (irps_below l.number)
