-- Wrong executions and wrong histories, the newest step and the newest event first, and that none of them is possible.
use Rattle.std.specs.Prelude.{◌≡◌, ℕ, List, [], ◌∷◌, Some, None}
use Rattle.irp_core.specs.declared.ids.IrpLife.{IrpLife}
use Rattle.irp_core.specs.declared.ids.PassId.{PassId}
use Rattle.irp_core.specs.declared.step.Kind.{Kind}
use Rattle.irp_core.specs.declared.step.Kind.TheVariants.{Arm, Test, Disarm, End, Flag, Take, Out, Done, Renew, Rearm}
use Rattle.irp_core.specs.declared.step.Made.{Made}
use Rattle.irp_core.specs.Runs.{Size, IsRun, IsAtRest}
use Rattle.irp_core.specs.Steps.{own}
use Rattle.csq_list.specs.declared.entry.Place.TheVariants.{Back}
use Rattle.csq_list.specs.declared.entry.Peek.TheVariants.{Any}
use Rattle.csq_words.specs.declared.views.InsertReply.TheVariants.{Pending, Cancelled}
use Rattle.csq_words.specs.declared.views.Event.{Event}
use Rattle.csq_words.specs.declared.views.Event.TheVariants.{FlagSeen, Insert, RemoveNext, Mark, PutBack}
use Rattle.csq_words.specs.declared.views.HistoryEntry.{HistoryEntry}
use Rattle.csq_words.specs.declared.views.Completion.{Completion}
use Rattle.csq_words.specs.declared.views.Tick.{Tick}
use Rattle.csq_words.specs.declared.views.PassRecord.{PassRecord}
use Rattle.csq_words.specs.declared.views.QueueRecord.{QueueRecord}
use Rattle.csq_words.specs.Queue.{Limits}
use Rattle.csq_words.specs.History.{calls_of, IsLegal, IsOrderly}
use Rattle.csq_words.specs.Records.{new_queue}
use Rattle.csq_words.specs.Traces.{steps_in}
use Rattle.csq_words.specs.Rule.{RecordsAgree, AreTrueOf}
use Rattle.csq_words.specs.Finals.{IsFinal}

-- the pass of this number
abbrev pub pass : ℕ → PassId
pass p = record { 0 = p }

-- IRP n in this life
abbrev pub irp : ℕ → ℕ → IrpLife
irp n life = record { irp = record { 0 = n }; life = record { 0 = life } }

-- a step of pass p, and what it found
abbrev pub did : ℕ → Kind → ℕ → Made
did p kind found = record { pass = pass p; kind = kind; found = found }

-- an event of pass p
abbrev pub said : ℕ → Event → HistoryEntry
said p e = record { pass = pass p; event = e }

-- p's insert of IRP n, which is pending
abbrev pub inserted : ℕ → ℕ → HistoryEntry
inserted p n = said p (Insert (record { 0 = n }) (record { 0 = 0 }) Back Pending)

-- p's removal of IRP 0
abbrev pub removed : ℕ → HistoryEntry
removed p = said p (RemoveNext Any (Some (irp 0 0)))

-- p's put-back of IRP 0 for this file object, which is pending
abbrev pub put_back : ℕ → ℕ → HistoryEntry
put_back p f = said p (PutBack (irp 0 0) (record { 0 = f }) Back Pending)

-- p's removal, which found none
abbrev pub found_none : ℕ → HistoryEntry
found_none p = said p (RemoveNext Any None)

-- pass 1 inserts IRP n
abbrev pub inserts_of : ℕ → List Made → List Made
inserts_of n older = did 1 (Test (irp n 0)) 0 ∷ did 1 (Arm (irp n 0)) 0 ∷ older

-- pass 1 inserts IRP 0, and pass 2 removes it
abbrev pub removed_by_2 : List Made
removed_by_2 = did 2 (Disarm (irp 0 0)) 1 ∷ inserts_of 0 []

-- lists of steps that are no execution
pub record NoneIsARun : Type 0 where
  -- a pass flags IRP 9, of one IRP
  pub unknown_irp : IsRun record { irps = 1; passes = 1; first = 0 } (did 1 (Flag (irp 9 0)) 0 ∷ []) → ⊥
  -- pass 7 flags, of one pass
  pub unknown_pass : IsRun record { irps = 1; passes = 1; first = 0 } (did 7 (Flag (irp 0 0)) 0 ∷ []) → ⊥
  -- two exchanges find one routine
  pub two_claims : (size : Size) → IsRun size (did 3 (Disarm (irp 0 0)) 1 ∷ removed_by_2) → ⊥
  -- a pass completes what it hasn't claimed
  pub stranger : (size : Size) → IsRun size (did 3 (Done (irp 0 0)) 0 ∷ removed_by_2) → ⊥
  -- a second completion
  pub completed_twice : (size : Size) → IsRun size (did 2 (Done (irp 0 0)) 0 ∷ did 2 (Done (irp 0 0)) 0 ∷ removed_by_2) → ⊥
  -- a cancel of life 0 takes the routine of life 1
  pub late_take : (size : Size) → IsRun size (did 3 (Take (irp 0 0)) 1 ∷ did 1 (Test (irp 0 1)) 0 ∷ did 1 (Arm (irp 0 1)) 0 ∷ did 2 (Renew (irp 0 0)) 0 ∷ did 3 (Flag (irp 0 0)) 0 ∷ did 2 (Done (irp 0 0)) 0 ∷ removed_by_2) → ⊥
  -- it sets the flag of life 1
  pub late_flag : IsRun (record { irps = 1; passes = 3; first = 0 }) (did 3 (Flag (irp 0 0)) 0 ∷ did 2 (Renew (irp 0 0)) 0 ∷ did 2 (Done (irp 0 0)) 0 ∷ removed_by_2) → ⊥
  -- what was removed is never completed
  pub lost : IsAtRest removed_by_2 → ⊥
  -- a removal before its insert
  pub unlisted : (size : Size) → IsRun size (did 2 (Disarm (irp 0 0)) 0 ∷ []) → ⊥
  -- a pass puts back what its insert found cancelled
  pub cancelled_put_back : (size : Size) → IsRun size (did 1 (Rearm (irp 0 0)) 0 ∷ did 1 (Disarm (irp 0 0)) 1 ∷ did 1 (Test (irp 0 0)) 1 ∷ did 1 (Arm (irp 0 0)) 0 ∷ did 3 (Take (irp 0 0)) 0 ∷ did 3 (Flag (irp 0 0)) 0 ∷ []) → ⊥
  -- a pass puts back what another one removed
  pub put_back_by_another : (size : Size) → IsRun size (did 3 (Rearm (irp 0 0)) 0 ∷ removed_by_2) → ⊥
  -- it puts back what its cancel routine took out
  pub taken_out_put_back : (size : Size) → IsRun size (did 3 (Rearm (irp 0 0)) 0 ∷ did 3 (Out (irp 0 0)) 0 ∷ did 3 (Take (irp 0 0)) 1 ∷ did 3 (Flag (irp 0 0)) 0 ∷ inserts_of 0 []) → ⊥
  -- a second put-back after one removal
  pub put_back_twice : (size : Size) → IsRun size (did 2 (Rearm (irp 0 0)) 0 ∷ did 2 (Test (irp 0 0)) 0 ∷ did 2 (Rearm (irp 0 0)) 0 ∷ removed_by_2) → ⊥
  -- one after the completion
  pub completed_put_back : (size : Size) → IsRun size (did 2 (Rearm (irp 0 0)) 0 ∷ did 2 (Done (irp 0 0)) 0 ∷ removed_by_2) → ⊥
  -- a cancel comes while pass 2 has the IRP, and the put-back doesn't find the flag
  pub flag_missed : (size : Size) → IsRun size (did 2 (Test (irp 0 0)) 0 ∷ did 2 (Rearm (irp 0 0)) 0 ∷ did 3 (Take (irp 0 0)) 0 ∷ did 3 (Flag (irp 0 0)) 0 ∷ removed_by_2) → ⊥
  -- a test before the arm
  pub test_first : (size : Size) → IsRun size (did 1 (Arm (irp 0 0)) 0 ∷ did 1 (Test (irp 0 0)) 0 ∷ []) → ⊥

-- two IRPs and two passes
abbrev pub two : Size
two = record { irps = 2; passes = 2; first = 0 }

-- what a queue's record has of a history and an execution
abbrev pub queue : List HistoryEntry → List Tick → QueueRecord
queue history trace = record (new_queue 0 2) { history = history; trace = trace }

-- the record of pass p, which has seen both and completed these
abbrev pub record_of : ℕ → List HistoryEntry → List Tick → List Completion → PassRecord
record_of p history trace completed = record { pass = pass p; seen = history; mine = calls_of (pass p) history; steps = own (pass p) (steps_in trace); completed = completed; lives = []; trace = trace }

-- they agree, as after a call of pass 1, with some execution of these steps
abbrev pub Agree : List HistoryEntry → List Made → Type 0
Agree history run = (trace : List Tick) × (steps_in trace ≡ run) × RecordsAgree two trace (queue history trace) (record_of 1 history trace [])

-- a pass that completed IRP 0 in life 0 with this status is back
abbrev pub completed_with : ℕ → PassRecord
completed_with status = record_of 2 [] [] (record { irp = irp 0 0; status = record { 0 = status } } ∷ [])

-- histories that aren't of the execution
pub record NoneIsAHistory : Type 0 where
  -- a removal by pass 2 found none, after an insert by pass 1 that had ended
  pub overlooked : Agree (inserted 1 0 ∷ found_none 2 ∷ []) (did 2 End 0 ∷ inserts_of 0 []) → ⊥
  -- the removal isn't in the history at all
  pub left_out : Agree (inserted 1 0 ∷ []) (did 2 End 0 ∷ inserts_of 0 []) → ⊥
  -- it is, and stands before the insert, which is recorded at a later step of its pass
  pub recorded_late : Agree (found_none 1 ∷ said 1 (Mark (irp 0 0)) ∷ inserted 1 0 ∷ found_none 2 ∷ []) (did 1 End 0 ∷ did 1 (Disarm (irp 0 0)) 0 ∷ did 2 (Take (irp 0 0)) 1 ∷ did 2 (Flag (irp 0 0)) 0 ∷ did 2 End 0 ∷ inserts_of 0 []) → ⊥
  -- a removal without any step
  pub no_step : Agree (found_none 2 ∷ []) [] → ⊥
  -- pass 2 put back what it removed, which isn't in the history at all
  pub put_back_left_out : Agree (removed 2 ∷ inserted 1 0 ∷ []) (did 2 (Test (irp 0 0)) 0 ∷ did 2 (Rearm (irp 0 0)) 0 ∷ removed_by_2) → ⊥
  -- pass 1 put back what pass 2 had removed, whatever the execution
  pub another_put_back : (run : List Made) → Agree (put_back 1 0 ∷ removed 2 ∷ inserted 1 0 ∷ []) run → ⊥
  -- two calls of one caller, in the other order
  pub turned : Agree (inserted 1 1 ∷ inserted 1 0 ∷ []) (inserts_of 0 (inserts_of 1 [])) → ⊥
  -- a removal found none since the IRP was marked, by a cancel that came later
  pub marked_before : Agree (found_none 1 ∷ said 1 (Mark (irp 0 0)) ∷ inserted 1 0 ∷ []) (did 2 (Take (irp 0 0)) 1 ∷ did 2 (Flag (irp 0 0)) 0 ∷ did 1 End 0 ∷ inserts_of 0 []) → ⊥
  -- a removal before its insert
  pub removed_first : IsOrderly 0 (inserted 1 0 ∷ removed 2 ∷ []) → ⊥
  -- two inserts of one life
  pub inserted_twice : IsOrderly 0 (inserted 2 0 ∷ inserted 1 0 ∷ []) → ⊥
  -- a put-back of what was never removed
  pub never_removed : IsOrderly 0 (put_back 1 0 ∷ inserted 1 0 ∷ []) → ⊥
  -- one for another file object than the insert's
  pub other_file : (l : Limits) → IsLegal l (put_back 2 1 ∷ removed 2 ∷ inserted 1 0 ∷ []) → ⊥
  -- one that is pending, although the flag was seen
  pub flag_ignored : (l : Limits) → IsLegal l (put_back 1 0 ∷ said 1 (Insert (record { 0 = 0 }) (record { 0 = 0 }) Back Cancelled) ∷ said 1 (FlagSeen (irp 0 0)) ∷ []) → ⊥
  -- pass 3 put back what pass 2 removed and put back
  pub put_back_of_another : AreTrueOf 0 (did 2 (Test (irp 0 0)) 0 ∷ did 2 (Rearm (irp 0 0)) 0 ∷ removed_by_2) (put_back 3 0 ∷ removed 2 ∷ inserted 1 0 ∷ []) → ⊥
  -- pass 2 was given what pass 3 removed
  pub another : AreTrueOf 0 (did 3 (Disarm (irp 0 0)) 1 ∷ inserts_of 0 []) (removed 2 ∷ inserted 1 0 ∷ []) → ⊥
  -- a pass is back twice, with two statuses of one life
  pub back_twice : (size : Size) (words : List ℕ) (q : QueueRecord) → q.back ≡ completed_with 0 ∷ completed_with 1 ∷ [] → IsFinal size words q → ⊥
