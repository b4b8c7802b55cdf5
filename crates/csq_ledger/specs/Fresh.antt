-- A ledger as it is made.
use Rattle.std.specs.Prelude.{◌≡◌, false, []}
use Rattle.irp_core.specs.declared.ids.{FileId.{FileId}, IrpId.{IrpId}}
use Rattle.request_table.specs.Requests.{fresh}
use Rattle.csq_words.specs.Queue.{Limits}
use Rattle.csq_checked.specs.Passes.{CheckedState}
use Rattle.csq_checked.specs.Sizes.{new_checked}
use Rattle.csq_checked.specs.declared.size.QueueSize.{QueueSize}
use Rattle.csq_ledger.specs.Ledgers.{LedgerState}
use Rattle.csq_ledger.specs.Singles.{Single, is_closed, limits_of, list_of, spot}

-- the size with one pass
abbrev pub with_one_pass : QueueSize → QueueSize
with_one_pass size = record size { passes = 1 }

-- a new queue of this size, with one pass
pub record IsNewOfOne (size : QueueSize) (q : CheckedState) : Type 0 where
  pub new : q ≡ new_checked (with_one_pass size) q.queue.limits q.queue.table
  pub irps : q.queue.limits.irps ≡ size.irps
  pub files : q.queue.limits.files ≡ size.files
  pub passes : q.queue.limits.passes ≡ 1
  pub first : q.queue.limits.first ≡ size.first.0

-- nothing is listed, held, accepted or flagged, and no file object is closed
pub record IsFreshSingle (limits : Limits) (s : Single) : Type 0 where
  pub limits_are : limits_of s ≡ limits
  pub home : (n : IrpId) → spot s n ≡ record { is_listed = false; is_held = false; is_removed = false; is_used = false; is_flagged = false; life = limits.first; file = record { 0 = 0 } }
  pub open_files : (f : FileId) → is_closed s f ≡ false
  pub empty : list_of s ≡ []

-- the queue is fresh, with these limits, and so is the table of this size
pub record IsFreshLedger (size : QueueSize) (limits : Limits) (s : LedgerState) : Type 0 where
  pub queue : IsFreshSingle limits s.single
  pub table : s.table ≡ fresh size.irps size.files
