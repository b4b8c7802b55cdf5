-- The calls in real time. Between a call that has returned and one that hasn't begun there is a moment, at which the rule of the words holds.
use Rattle.std.specs.Prelude.{◌≡◌, ◌≢◌, ◌⊎◌, ℕ, List, [], ◌∷◌, Some}
use mathlib.Core.Option.{some}
use lib.ListN.{get_elem?}
use Rattle.atomic_table.specs.Table.{State}
use Rattle.csq_list.specs.Listing.{Listing}
use Rattle.csq_words.specs.declared.views.{HistoryEntry.{HistoryEntry}, PassRecord.{PassRecord}, QueueRecord.{QueueRecord}, View.{View}}
use Rattle.csq_words.specs.Queue.{Limits}
use Rattle.csq_words.specs.History.{IsExtendedBy}
use Rattle.csq_words.specs.Records.{only_calls}
use Rattle.csq_words.specs.Rule.{RuleHolds}
use Rattle.csq_words.specs.Finals.{FinalWords}
use Rattle.csq_queue.specs.Named.{queue_size}
use Rattle.csq_queue.specs.Order.{LockedCall, entries, ComesBefore, StandBefore}
use Rattle.csq_queue.specs.Rests.{IsClosed, IsRestOf}

-- the words and the seats as they are at one moment. The rule holds of them at each: that is the contract of the words
pub record Moment (limits : Limits) : Type 0 where
  pub state : State (Unit {0}) View
  pub rule : RuleHolds (queue_size limits) state

module _ {limits : Limits} where
  -- at this moment the pass of this record is out, and has it
  abbrev pub HasPass : Moment limits → PassRecord → Type 0
  HasPass moment r = (k : ℕ) × (v : View) × (get_elem? moment.state.views k ≡ some v) × (v.pass ≡ Some r)

  -- at this moment it is back, and a receipt has its record
  abbrev pub HasReceipt : Moment limits → PassRecord → Type 0
  HasReceipt moment r = (k : ℕ) × (v : View) × (get_elem? moment.state.views k ≡ some v) × (v.back ≡ Some r)

  -- at this moment the call has returned: its pass, which is out or back, has seen what the call left
  pub record HasReturned (moment : Moment limits) (c : LockedCall limits) : Type 0 where
    pub now : PassRecord
    pub pass : now.pass ≡ c.old.pass
    pub seen : IsExtendedBy c.new.seen now.seen
    pub here : HasPass moment now ⊎ HasReceipt moment now

  -- at this moment the call hasn't begun: its pass has the record that the call begins with
  abbrev pub HasNotBegun : Moment limits → LockedCall limits → Type 0
  HasNotBegun moment d = HasPass moment d.old

  -- c had returned before d began, and both add something to the history, d a call's event
  pub record ReturnedBefore (c d : LockedCall limits) : Type 0 where
    pub moment : Moment limits
    pub returned : HasReturned moment c
    pub waiting : HasNotBegun moment d
    pub some_events : c.events ≢ []
    pub some_call : only_calls (entries d) ≢ []

-- if one call had returned before another began, it comes first, in each history that begins with what both have seen
abbrev pub CallsAreInRealTime : Type 0
CallsAreInRealTime = (limits : Limits) (c d : LockedCall limits) → ReturnedBefore c d → (history : List HistoryEntry) → IsExtendedBy c.new.seen history → IsExtendedBy d.new.seen history → ComesBefore c d

-- so the calls of the closing pass, and of those whose receipts are shown, stand in the history that is left in real time
abbrev pub CallsLeftAreInRealTime : Type 0
CallsLeftAreInRealTime = (limits : Limits) (pass : PassRecord) (receipts : List PassRecord) (taken : ℕ) (listing : Listing) (finals : FinalWords) → IsRestOf limits pass receipts taken listing finals
    → (c d : LockedCall limits) → ReturnedBefore c d
    → (j k : ℕ) (r s : PassRecord) → get_elem? (pass ∷ receipts) j ≡ some r → get_elem? (pass ∷ receipts) k ≡ some s → IsExtendedBy c.new.seen r.seen → IsExtendedBy d.new.seen s.seen
    → StandBefore finals.queue.history c d

-- and those of all passes of an open queue
abbrev pub CallsOfAnOpenQueueAreInRealTime : Type 0
CallsOfAnOpenQueueAreInRealTime = (limits : Limits) (taken : ℕ) (old : QueueRecord) (listing : Listing) (finals : FinalWords) → IsClosed limits taken old listing finals
    → (c d : LockedCall limits) → ReturnedBefore c d
    → (j k : ℕ) (r s : PassRecord) → get_elem? old.back j ≡ some r → get_elem? old.back k ≡ some s → IsExtendedBy c.new.seen r.seen → IsExtendedBy d.new.seen s.seen
    → StandBefore old.history c d
