-- What the threads of a device hand back.
use Rattle.std.specs.Prelude.{◌≡◌, ℕ, suc, ◌+◌, Bool, true, false, List, [], ◌∷◌, length}
use Rattle.std.specs.List.{list_any}
use mathlib.Core.Option.{some}
use lib.ListN.{get_elem?}
use Rattle.csq_words.specs.declared.views.{HistoryEntry.{HistoryEntry}, Event.{Event, TheVariants.{Reuse}}, PassRecord.{PassRecord}, QueueRecord.{QueueRecord}}
use Rattle.csq_words.specs.Rule.{HasBack}
use Rattle.csq_words.specs.Queue.{Limits}
use Rattle.csq_queue.specs.Named.{pass_numbered}
use Rattle.csq_queue.specs.Rests.{HoldsNothing}
use Rattle.csq_device.specs.Duties.{AreCallsOf, completed_by}
use Rattle.csq_device.specs.declared.kinds.CallsByKind.{CallsByKind}
use Rattle.csq_device.specs.declared.plan.Plan.{Plan}

-- the event is a reuse
abbrev pub is_reuse : Event → Bool
is_reuse (Reuse n life) = true
is_reuse _ = false

-- some event of the history is one
abbrev pub has_reuse : List HistoryEntry → Bool
has_reuse history = list_any (λ (e : HistoryEntry). is_reuse e.event) history

-- the pass of this number completed so many IRPs in all, reused none, and holds and owes nothing
pub record HasServed (number count : ℕ) (r : PassRecord) : Type 0 where
  pub pass : r.pass ≡ pass_numbered number
  pub count_is : count ≡ length r.completed
  pub none_reused : has_reuse r.mine ≡ false
  pub rests : HoldsNothing r

-- how many IRPs the passes with these records completed
abbrev pub completions_of : List PassRecord → ℕ
completions_of [] = 0
completions_of (r ∷ rs) = length r.completed + completions_of rs

-- these are the records of the passes from this number on, with which they are back, and none of them reused an IRP
abbrev pub AreServed : QueueRecord → ℕ → List PassRecord → Type 0
AreServed queue from [] = Unit {0}
AreServed queue from (r ∷ rs) = (r.pass ≡ pass_numbered from) × HasBack queue r × (has_reuse r.mine ≡ false) × AreServed queue (suc from) rs

-- these are the records of the passes 1, 2 and so on, none of which reused an IRP
abbrev pub AreReceipts : List PassRecord → Type 0
AreReceipts rs = (k : ℕ) (r : PassRecord) → get_elem? rs k ≡ some r → (r.pass ≡ pass_numbered (suc k)) × (has_reuse r.mine ≡ false)

-- the threads of a plan made these calls and the cleanup completed so many IRPs; what they completed is what their passes did: of all but the last these are the receipts, the last is the pass, and none is in the rack
pub record IsShift (limits : Limits) (plan : Plan) (calls : CallsByKind) (cleaned : ℕ) (receipts : List PassRecord) (pass : PassRecord) (rack : ℕ) : Type 0 where
  pub calls_are : AreCallsOf plan calls
  pub handed_is : completed_by calls + cleaned ≡ completions_of receipts + length pass.completed
  pub given : AreReceipts receipts
  pub last : (pass.pass ≡ pass_numbered limits.passes) × (has_reuse pass.mine ≡ false)
  pub rests : HoldsNothing pass
  pub all : suc (length receipts) ≡ limits.passes
  pub none_left : rack ≡ 0
