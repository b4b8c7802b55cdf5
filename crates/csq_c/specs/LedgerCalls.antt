-- What the calls through the handle of a ledger return to C.
use Rattle.std.specs.Prelude.{◌≡◌, ◌==◌, ℕ, List, Option, Some, None, if◌then◌else◌}
use Rattle.irp_core.specs.declared.ids.IrpLife.{IrpLife}
use Rattle.request_table.specs.Requests.{under_way_of_all}
use Rattle.request_table.specs.declared.stage.Why.{Why}
use Rattle.csq_list.specs.declared.entry.Peek.{Peek, TheVariants.{Any, File}}
use Rattle.csq_queue.specs.Looks.{listed_count}
use Rattle.csq_checked.specs.Sizes.{limits_given}
use Rattle.csq_checked.specs.declared.size.QueueSize.{QueueSize as Given}
use Rattle.csq_ledger.specs.Calls.{counts_for}
use Rattle.csq_ledger.specs.Fresh.{IsFreshLedger, with_one_pass}
use Rattle.csq_ledger.specs.Ledgers.{LedgerState, knows, named_stage}
use Rattle.csq_ledger.specs.declared.looks.Counts.{Counts}
use Rattle.csq_c.specs.Handled.{LooksAtHandle, OnHandle, OnNumber}
use Rattle.csq_c.specs.LedgerShapes.{look_of, why_numbered}
use Rattle.csq_c.specs.Sizes.{IsGoodSize, given_size}
use Rattle.csq_c.specs.declared.codes.Code.{Code, TheVariants.{Done, UnknownIrp, Holding, EmptyHandle}}
use Rattle.csq_c.specs.declared.handles.CsqLedger.{CsqLedger}
use Rattle.csq_c.specs.declared.ledger.shapes.CsqLook.{CsqLook}
use Rattle.csq_c.specs.declared.shapes.CsqSize.{CsqSize}

-- a call through the handle of a ledger, and a look
abbrev pub OnLedger : CsqLedger → CsqLedger → ℕ → Type 0 → (LedgerState → LedgerState → Code → Type 0) → Type 0
OnLedger ledger ledger' = OnHandle ledger.boxed.body ledger'.boxed.body

abbrev pub LooksAtLedger : CsqLedger → CsqLedger → ℕ → Type 0 → (LedgerState → Code → Type 0) → Type 0
LooksAtLedger ledger ledger' = LooksAtHandle ledger.boxed.body ledger'.boxed.body

-- a call for a reason
abbrev pub OnWhy : ℕ → Code → Type 0 → (Why → Type 0) → Type 0
OnWhy number = OnNumber (why_numbered number)

-- each number is in its range, but for the number of passes, which isn't looked at
abbrev pub IsGoodLedgerSize : CsqSize → Type 0
IsGoodLedgerSize c = IsGoodSize (record c { passes = 1 })

-- a new ledger of this size, whose file objects have these limits
abbrev pub IsNewLedger : CsqSize → List ℕ → LedgerState → Type 0
IsNewLedger c limits s = (size : Given) × (given_size c ≡ Some size) × IsFreshLedger size (limits_given (with_one_pass size) limits) s

-- how many are listed for a file object, if there is one, or for all, and under way
abbrev pub counts_of : LedgerState → Peek → Option Counts
counts_of s Any = Some (record { listed = listed_count s.single.queue.queue; under_way = under_way_of_all s.table })
counts_of s (File f) = counts_for s f

-- what freeing a ledger returns
abbrev pub free_ledger_code : Option LedgerState → Code
free_ledger_code None = EmptyHandle
free_ledger_code (Some s) = if under_way_of_all s.table == 0 then Done else Holding

-- whether there is such a request
abbrev pub look_code : LedgerState → IrpLife → Code
look_code s i = if knows s i.irp then Done else UnknownIrp

-- what stands there once it was looked at
abbrev pub look_written : LedgerState → IrpLife → CsqLook → CsqLook
look_written s i old = if knows s i.irp then look_of (named_stage s i) else old
