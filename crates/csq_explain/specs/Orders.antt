-- An order that may break the protocol, followed step by step.
use Rattle.std.specs.Prelude.{◌≡◌, ℕ, List, length}
use Rattle.csq_explain.specs.declared.line_steps.LineStep.{LineStep}
use Rattle.csq_explain.specs.declared.order.Order.{Order}
use Rattle.csq_explain.specs.Harms.{step_harms}
use Rattle.csq_explain.specs.IrpRecords.{records}

-- over how many IRPs it is
abbrev pub irps_in : {A : Type 0} → Order A → ℕ
irps_in order = length order.records.items

-- it stands where these steps, the newest first, led to
pub record OrderStands {A : Type 0} (order : Order A) (irps : ℕ) (V : List LineStep) : Type 0 where
  pub count : irps_in order ≡ irps
  pub known : order.records.items ≡ records irps V
  pub harms : order.harms.items ≡ step_harms V
