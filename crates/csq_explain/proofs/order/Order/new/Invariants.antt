use Rattle.std.proofs.Common.{◌≡◌, []}
use Rattle.csq_explain.specs.IrpRecords.{records}
use Rattle.csq_explain.proofs.order.Order.new.Given as goal

-- the records so far
abbrev pub invariant-loop-number : goal.invariant-loop-number
invariant-loop-number g l = l.records.items ≡ records l.number []
