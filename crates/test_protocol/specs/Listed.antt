-- What the tests say of the queue's record, where IRP 0 alone is inserted.
use Rattle.std.specs.Prelude.{◌≡◌, ◌<◌, ◌≤◌, false, List, [], ◌∷◌}
use Rattle.irp_core.specs.Steps.{life_of}
use Rattle.irp_core.specs.declared.ids.IrpLife.{IrpLife}
use Rattle.csq_words.specs.declared.views.QueueRecord.{QueueRecord}
use Rattle.csq_words.specs.declared.views.Reusing.TheVariants.{Nothing}
use Rattle.csq_words.specs.Queue.{Queued, present_in, new_entry, has_irp}
use Rattle.csq_words.specs.Records.{queue_of}

-- i is IRP 0 in its present life
abbrev pub IsIrpZero : IrpLife → QueueRecord → Type 0
IsIrpZero i q = i ≡ present_in (queue_of q) record { 0 = 0 }

-- i alone is listed, for file object 0, and isn't marked
abbrev pub only_entry : IrpLife → List Queued
only_entry i = new_entry i record { 0 = 0 } ∷ []

-- no reuse is in flight, i is present, nothing is listed, and i may be inserted, as its later lives may
pub record IsHome (i : IrpLife) (q : QueueRecord) : Type 0 where
  pub idle : q.reusing ≡ Nothing
  pub present : IsIrpZero i q
  pub empty : (queue_of q).entries ≡ []
  pub unused : (j : IrpLife) → life_of i ≤ life_of j → has_irp (queue_of q).used j ≡ false

-- no reuse is in flight, i is present, these are listed, and its later lives may be inserted
pub record IsInserted (i : IrpLife) (entries : List Queued) (q : QueueRecord) : Type 0 where
  pub idle : q.reusing ≡ Nothing
  pub present : IsIrpZero i q
  pub entries_are : (queue_of q).entries ≡ entries
  pub unused : (j : IrpLife) → life_of i < life_of j → has_irp (queue_of q).used j ≡ false
