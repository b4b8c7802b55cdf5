-- What is concluded of what passes have seen.
use Rattle.std.specs.Prelude.{◌≡◌, ◌<◌, ℕ, Bool, true, ◌||◌, Result, Err}
use Rattle.irp_core.specs.declared.ids.IrpLife.{IrpLife}
use Rattle.irp_core.specs.declared.ids.IrpId.{IrpId}
use Rattle.irp_core.specs.declared.ids.Life.{Life}
use Rattle.csq_words.specs.declared.views.PassRecord.{PassRecord}
use Rattle.irp_core.specs.Own.{owes_in, holds_in}
use Rattle.csq_words.specs.History.{end_of}
use Rattle.csq_queue.specs.declared.refusals.ReuseRefused.{ReuseRefused}
use Rattle.csq_queue.specs.declared.refusals.ReuseRefused.TheVariants.{NotCompleted}

-- the pass owes or holds i
abbrev pub has : PassRecord → IrpLife → Bool
has r i = owes_in r.steps i || holds_in r.steps i

-- the life of IRP n that is present in what the pass has seen
abbrev pub life_seen : ℕ → PassRecord → IrpId → ℕ
life_seen first r n = (end_of first r.seen).lives n

-- a reuse that was refused since the present life isn't completed was refused in a later life than this one
abbrev pub IsLater : ℕ → IrpLife → PassRecord → Result Life ReuseRefused → Type 0
IsLater first i r reuse = reuse ≡ Err NotCompleted → i.life.0 < life_seen first r i.irp

-- if both reads tell the same life, what the first told as set is still set
abbrev pub StaysSet : Life × Bool → Life × Bool → Type 0
StaysSet earlier later = earlier.0 ≡ later.0 → earlier.1 ≡ true → later.1 ≡ true
