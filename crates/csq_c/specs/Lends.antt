-- What becomes of a handle once a call had what stands behind it.
use Rattle.std.specs.Prelude.{Option, Some}
use Rattle.std.specs.Borrow.{Fml, MutBor, LendsIf}
use Rattle.csq_checked.specs.Passes.{CheckedPassState}
use Rattle.csq_checked.specs.contracts.pass.CheckedPass as pass
use Rattle.csq_ledger.specs.Ledgers.{LedgerState}
use Rattle.csq_ledger.specs.contracts.ledger.Ledger as ledger
use Rattle.csq_c.specs.Bodies.{QueueBodyState}
use Rattle.csq_c.specs.Replays.{ReplayState}
use Rattle.csq_c.specs.contracts.body.QueueBody as body
use Rattle.csq_c.specs.contracts.replay.body.ReplayBody as replay
use Rattle.csq_c.specs.contracts.handles.LedgerBox as ledger_handle
use Rattle.csq_c.specs.contracts.handles.PassBox as pass_handle
use Rattle.csq_c.specs.contracts.handles.QueueBox as queue_handle
use Rattle.csq_c.specs.contracts.handles.ReplayBox as replay_handle
use Rattle.csq_c.specs.declared.handles.{LedgerBox.{LedgerBox}, PassBox.{PassBox}, QueueBox.{QueueBox}, ReplayBox.{ReplayBox}}

-- a queue's handle ends with what the call left of the queue, and an empty one as it was
abbrev pub LendsQueue : MutBor QueueBox → Option (MutBor QueueBodyState) → Fml
LendsQueue h r = LendsIf queue_handle.the_row body.the_row h r (λ body. record h.now { body = Some body }) h.now

-- so does a pass's
abbrev pub LendsPass : MutBor PassBox → Option (MutBor CheckedPassState) → Fml
LendsPass h r = LendsIf pass_handle.the_row pass.the_row h r (λ body. record h.now { body = Some body }) h.now

-- and a ledger's
abbrev pub LendsLedger : MutBor LedgerBox → Option (MutBor LedgerState) → Fml
LendsLedger h r = LendsIf ledger_handle.the_row ledger.the_row h r (λ body. record h.now { body = Some body }) h.now

-- and a replay's
abbrev pub LendsReplay : MutBor ReplayBox → Option (MutBor ReplayState) → Fml
LendsReplay h r = LendsIf replay_handle.the_row replay.the_row h r (λ body. record h.now { body = Some body }) h.now
