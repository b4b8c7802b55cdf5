-- The invariant of the tests' fixture: what is known of the seats at each stage of IRP 0.
use Rattle.std.specs.Prelude.{◌≡◌, ◌<◌, true, [], Option, None}
use Rattle.irp_core.specs.Steps.{life_of}
use Rattle.irp_core.specs.declared.ids.IrpLife.{IrpLife}
use Rattle.irp_core.specs.Lives.{last_life}
use Rattle.irp_core.specs.declared.ids.Life.{Life}
use Rattle.irp_core.specs.declared.inside.Inside.{Inside}
use Rattle.irp_core.specs.declared.inside.Inside.TheVariants as inner
use Rattle.irp_core.specs.Own.{inside_of, owes_in, holds_in, removed_in}
use Rattle.csq_words.specs.Records.{with_reusing}
use Rattle.csq_words.specs.Seats.{WordsState, QueueSeatState, PassSeatState, joined_record, pass_record, IsHere, IsJoined}
use Rattle.csq_words.specs.declared.views.Reusing.{Reusing}
use Rattle.csq_words.specs.declared.views.Reusing.TheVariants as reusing
use Rattle.test_protocol.specs.Listed.{IsHome, IsInserted, IsIrpZero, only_entry}
use Rattle.test_protocol.specs.declared.states.Stage.{Stage}
use Rattle.test_protocol.specs.declared.states.Stage.TheVariants.{Home, Armed, FlagSeen, Listed, Removed, Rearmed, FlagSeenAgain, Taken, Looked, StatusRenewed, Ended}
use Rattle.test_protocol.specs.declared.states.Doing.{Doing}
use Rattle.test_protocol.specs.declared.states.Doing.TheVariants.{Nothing, Cancelling, Owing, Holding, HoldingRemoved}
use Rattle.test_protocol.specs.declared.states.Hand.{Hand}
use Rattle.test_protocol.specs.declared.states.Hand.TheVariants.{Away, Here}

-- IRP 0 in this life
abbrev pub irp_in : Life → IrpLife
irp_in l = record { irp = record { 0 = 0 }; life = l }

-- a pass is under the lock, inside of this
abbrev pub IsUnderLock : Inside → QueueSeatState → Type 0
IsUnderLock inside q = IsJoined q × (inside_of (joined_record q).steps ≡ inside)

-- pass 1 renews i, as far as this
abbrev pub IsReusing : Reusing → IrpLife → QueueSeatState → Type 0
IsReusing r i q = IsUnderLock inner.Nothing q × (q.queue.reusing ≡ r) × IsInserted i [] (with_reusing reusing.Nothing q.queue) × (life_of i < last_life)

-- the queue's seat where IRP 0, present in the life of i, is at this stage
abbrev pub HasStage : Stage → IrpLife → QueueSeatState → Type 0
HasStage Home i q = (q.joined ≡ None) × IsHome i q.queue
HasStage Armed i q = IsUnderLock (inner.Armed i) q × IsHome i q.queue
HasStage FlagSeen i q = IsUnderLock (inner.FlagSeen i) q × IsHome i q.queue
HasStage Listed i q = (q.joined ≡ None) × IsInserted i (only_entry i) q.queue
HasStage Removed i q = (q.joined ≡ None) × IsInserted i [] q.queue
HasStage Rearmed i q = IsUnderLock (inner.Rearmed i) q × IsInserted i [] q.queue
HasStage FlagSeenAgain i q = IsUnderLock (inner.FlagSeenAgain i) q × IsInserted i [] q.queue
HasStage Taken i q = (q.joined ≡ None) × IsIrpZero i q.queue × (q.queue.reusing ≡ reusing.Nothing)
HasStage Looked i q = IsReusing (reusing.Looked i) i q
HasStage StatusRenewed i q = IsReusing (reusing.StatusRenewed i) i q
HasStage Ended i q = Unit {0}

-- a pass outside of every call does this
abbrev pub IsDoing : Doing → Option PassSeatState → Type 0
IsDoing Nothing p = inside_of (pass_record p).steps ≡ inner.Nothing
IsDoing (Cancelling l) p = inside_of (pass_record p).steps ≡ inner.Cancelling (irp_in l)
IsDoing (Owing l) p = (inside_of (pass_record p).steps ≡ inner.Nothing) × (owes_in (pass_record p).steps (irp_in l) ≡ true)
IsDoing (Holding l) p = (inside_of (pass_record p).steps ≡ inner.Nothing) × (holds_in (pass_record p).steps (irp_in l) ≡ true)
IsDoing (HoldingRemoved l) p = (inside_of (pass_record p).steps ≡ inner.Nothing) × (holds_in (pass_record p).steps (irp_in l) ≡ true) × (removed_in (pass_record p).steps (irp_in l) ≡ true)

-- the seat of a pass
abbrev pub HasHand : WordsState → Hand → Option PassSeatState → Type 0
HasHand w Away p = Unit {0}
HasHand w (Here d) p = IsHere w.table p × IsDoing d p

-- all seats are those of these words
abbrev pub IsCase : WordsState → Stage → IrpLife → QueueSeatState → Hand → Option PassSeatState → Hand → Option PassSeatState → Hand → Option PassSeatState → Type 0
IsCase words stage i q one p two r three s = (0 < words.size.irps) × (q.table ≡ words.table) × HasStage stage i q × HasHand words one p × HasHand words two r × HasHand words three s
