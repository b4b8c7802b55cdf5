use Rattle.std.proofs.Common.{◌≤◌, List, vec_len}
use Rattle.csq_explain.proofs.Imports.{Made, Agrees, size_of, AreReportedOf}
use Rattle.csq_explain.proofs.execution.reported_irps.Given as goal

-- the IRPs so far are reported
abbrev pub invariant-loop-number : goal.invariant-loop-number
invariant-loop-number g l = record {
  reported : (E : List Made) → Agrees l.machine E → AreReportedOf (size_of l.machine).first E l.number l.reported.items;
  few : vec_len l.reported ≤ l.number;
}
