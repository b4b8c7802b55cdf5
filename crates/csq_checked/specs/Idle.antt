-- Passes that came back, until they are handed out again: slot n is that of the pass n + 1.
use Rattle.std.specs.Prelude.{◌≡◌, ℕ, zero, suc, ◌<◌, List, Option, Some, None, length, true}
use Rattle.std.specs.Option.{is_none, is_some}
use Rattle.csq_words.specs.declared.views.QueueRecord.{QueueRecord}
use Rattle.csq_words.specs.Records.{entered, with_back}
use Rattle.csq_words.specs.Seats.{WordsState}
use Rattle.csq_queue.specs.Counts.{tally}
use Rattle.csq_queue.specs.Named.{pass_numbered}
use Rattle.csq_queue.specs.Opens.{OpenPassState, IsPassOn}
use Rattle.csq_queue.specs.Rests.{HoldsNothing}
use Rattle.csq_checked.specs.Slots.{slot_at}

-- the slots of a queue's passes
abbrev pub IdleSlots : Type 0
IdleSlots = List (Option OpenPassState)

-- no pass is idle
abbrev pub NoneIsIdle : IdleSlots → Type 0
NoneIsIdle idle = (n : ℕ) → n < length idle → slot_at idle n ≡ None

-- slot n is the first that has a pass
pub record IsFirstIdle (idle : IdleSlots) (n : ℕ) : Type 0 where
  pub there : is_some (slot_at idle n) ≡ true
  pub before : (k : ℕ) → k < n → slot_at idle k ≡ None
  pub known : n < length idle

-- how many of the first passes, so many of which were taken, aren't idle
abbrev pub count_out : IdleSlots → ℕ → ℕ
count_out idle taken = tally (λ n. is_none (slot_at idle n)) taken

-- the pass in slot n is of these words and has that slot's number, and it holds and owes nothing
pub record IsIdle (words : WordsState) (n : ℕ) (p : OpenPassState) : Type 0 where
  pub on : IsPassOn words p
  pub numbered : p.pass.pass ≡ pass_numbered (suc n)
  pub nothing : HoldsNothing p.pass

-- there is a slot for each pass of these words, which is empty or has that pass
pub record AreIdle (words : WordsState) (idle : IdleSlots) : Type 0 where
  pub one_each : length idle ≡ words.size.passes
  pub each : (n : ℕ) (p : OpenPassState) → slot_at idle n ≡ Some p → IsIdle words n p

-- the queue once this pass, if there is one, gave itself back
abbrev pub with_one_back : Option OpenPassState → QueueRecord → QueueRecord
with_one_back None q = q
with_one_back (Some p) q = with_back p.pass (entered q)

-- the queue once those of the first n passes that are idle gave themselves back
abbrev pub with_idle_back : IdleSlots → ℕ → QueueRecord → QueueRecord
with_idle_back idle zero q = q
with_idle_back idle (suc n) q = with_one_back (slot_at idle n) (with_idle_back idle n q)
