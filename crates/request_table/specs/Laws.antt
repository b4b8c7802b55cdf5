-- Calls that change the stages of a table, one after the other, and what holds of each sequence of them.
use Rattle.std.specs.Prelude.{◌≡◌, ℕ, ◌+◌, Bool, false, if◌then◌else◌, List, [], ◌∷◌, length, filter, slice_get, Some, IsTrue}
use Rattle.irp_core.specs.declared.ids.{IrpId.{IrpId}, FileId.{FileId}}
use Rattle.irp_core.specs.Steps.{same_id}
use Rattle.request_table.specs.declared.stage.Stage.{Stage}
use Rattle.request_table.specs.Stages.{is_under_way, may_finish}
use Rattle.request_table.specs.Requests.{Requests, stage_of, fresh, begun, with_stage, finished}

-- the calls that change stages or the free numbers
pub data Call : Type 0 where
  -- list for a file, which returns this number
  Lists : IrpId → FileId → Call
  -- take, list_again, name or begin_end, which write this stage of a number
  Moves : IrpId → Stage → Call
  Finishes : IrpId → Bool → Call

-- what a call requires, and what it returns or writes
abbrev pub MayBe : Call → Requests → Type 0
MayBe (Lists i f) r = slice_get r.free 0 ≡ Some i
MayBe (Moves i s) r = IsTrue (is_under_way (stage_of r i)) × IsTrue (is_under_way s)
MayBe (Finishes i spent) r = IsTrue (may_finish (stage_of r i))

abbrev pub after : Call → Requests → Requests
after (Lists i f) r = begun i f r
after (Moves i s) r = with_stage i s r
after (Finishes i spent) r = finished i spent r

-- a new table after calls, the newest first
abbrev pub after_all : ℕ → ℕ → List Call → Requests
after_all irps files [] = fresh irps files
after_all irps files (c ∷ calls) = after c (after_all irps files calls)

-- each of these calls may be made after those before it
abbrev pub AreCalls : ℕ → ℕ → List Call → Type 0
AreCalls irps files [] = Unit {0}
AreCalls irps files (c ∷ calls) = MayBe c (after_all irps files calls) × AreCalls irps files calls

abbrev pub lists : IrpId → Call → Bool
lists i (Lists j f) = same_id i j
lists i _ = false

abbrev pub finishes : IrpId → Call → Bool
finishes i (Finishes j spent) = same_id i j
finishes i _ = false

-- a number was listed as often as it was finished, and once more while its request is under way
abbrev pub EachRequestIsFinishedOnce : Type 0
EachRequestIsFinishedOnce = (irps files : ℕ) (calls : List Call) → AreCalls irps files calls → (i : IrpId)
    → length (filter (lists i) calls) ≡ length (filter (finishes i) calls) + (if is_under_way (stage_of (after_all irps files calls) i) then 1 else 0)
