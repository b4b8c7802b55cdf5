-- Traces: an execution's steps, with the events that they record and with where the calls under the lock enter and leave. The newest tick stands first.
use Rattle.std.specs.Prelude.{◌≡◌, ◌⊎◌, ℕ, Bool, true, false, List, [], ◌∷◌, ◌++◌, map, Option, Some, None, ◌≢◌}
use Rattle.std.specs.Option.{option_map}
use Rattle.std.specs.List.{list_any}
use Rattle.irp_core.specs.Inside.{inside, has_lock, follows}
use Rattle.irp_core.specs.Lock.{needs_lock}
use Rattle.irp_core.specs.declared.ids.PassId.{PassId}
use Rattle.irp_core.specs.declared.inside.Inside.{Inside, TheVariants.{Nothing, Armed, Rearmed}}
use Rattle.irp_core.specs.declared.inside.Inside.TheVariants as inner
use Rattle.irp_core.specs.declared.step.{Made.{Made}, Kind.{Kind, TheVariants.{Arm, Test, Disarm, End, Renew, Rearm}}}
use Rattle.irp_core.specs.declared.step.Kind.TheVariants as step
use Rattle.csq_words.specs.declared.calls.{Call.{Call, TheVariants.{Insert, RemoveNext, Remove, CancelRoutine, Reuse, PutBack}}, Note.{Note}}
use Rattle.csq_words.specs.declared.views.{HistoryEntry.{HistoryEntry}, Tick.{Tick, TheVariants.{Enters, Leaves, Makes, Says}}, PassRecord.{PassRecord}}
use Rattle.csq_words.specs.History.{end_of, IsExtendedBy}
use Rattle.csq_words.specs.Records.{entries_of}
use Rattle.csq_words.specs.Recorded.{recorded, noted, is_noted, IsOfCall}

-- the steps of a trace
abbrev pub steps_in : List Tick → List Made
steps_in [] = []
steps_in (Enters p ∷ trace) = steps_in trace
steps_in (Leaves p ∷ trace) = steps_in trace
steps_in (Makes m ∷ trace) = m ∷ steps_in trace
steps_in (Says e ∷ trace) = steps_in trace

-- its events
abbrev pub entries_in : List Tick → List HistoryEntry
entries_in [] = []
entries_in (Enters p ∷ trace) = entries_in trace
entries_in (Leaves p ∷ trace) = entries_in trace
entries_in (Makes m ∷ trace) = entries_in trace
entries_in (Says e ∷ trace) = e ∷ entries_in trace

-- the pass whose call has entered and hasn't left
abbrev pub caller_in : List Tick → Option PassId
caller_in [] = None
caller_in (Enters p ∷ trace) = Some p
caller_in (Leaves p ∷ trace) = None
caller_in (Makes m ∷ trace) = caller_in trace
caller_in (Says e ∷ trace) = caller_in trace

-- the ticks that add these events
abbrev pub says : List HistoryEntry → List Tick
says es = map Says es

-- the step is the next one of the call, whose pass is inside of this
abbrev pub IsNextStep : Call → Kind → Inside → Type 0
IsNextStep (Insert n f place) (Arm j) s = s ≡ Nothing
IsNextStep (Insert n f place) (Test j) s = s ≡ Armed j
IsNextStep (Insert n f place) (Disarm j) s = s ≡ inner.FlagSeen j
IsNextStep (RemoveNext k) (Disarm j) s = follows s End ≡ true
IsNextStep (RemoveNext k) End s = follows s End ≡ true
IsNextStep (Remove i) (Disarm j) s = follows s End ≡ true
IsNextStep (Remove i) End s = follows s End ≡ true
IsNextStep (CancelRoutine n) (step.Out j) s = s ≡ Nothing
IsNextStep (PutBack i f place) (Rearm j) s = s ≡ Nothing
IsNextStep (PutBack i f place) (Test j) s = s ≡ Rearmed j
IsNextStep (PutBack i f place) (Disarm j) s = s ≡ inner.FlagSeenAgain j
IsNextStep (Reuse n) (Renew j) s = s ≡ Nothing
IsNextStep _ _ s = ⊥

-- the pass is in a call, and the step is the next one of that call, after this trace
pub record IsStepOf (first : ℕ) (trace : List Tick) (call : Call) (m : Made) : Type 0 where
  pub caller_is : caller_in trace ≡ Some m.pass
  pub of_call : IsOfCall call m.kind (end_of first (entries_in trace))
  pub next : IsNextStep call m.kind (inside (steps_in trace) m.pass)

-- what this step of the call records after this trace
abbrev pub recorded_after : ℕ → List Tick → Call → Made → List HistoryEntry
recorded_after first trace call m = entries_of m.pass (recorded call m.kind m.found (end_of first (entries_in trace)))

-- the ticks stand in the order of one execution. A call under the lock enters if none has entered that hasn't left, and leaves if it is inside of no program. Each step under the lock is one of the call that has entered, and directly after it comes what it records. A refused insert or put-back and a closed file object are added by such a call, while its pass is inside of nothing. Other events there are none
pub data IsTrace (first : ℕ) : List Tick → Type 0 where
  at_start : IsTrace first []
  entering : (p : PassId) {trace : List Tick} → caller_in trace ≡ None → IsTrace first trace → IsTrace first (Enters p ∷ trace)
  leaving : (p : PassId) {trace : List Tick} → caller_in trace ≡ Some p → has_lock (inside (steps_in trace) p) ≡ false → IsTrace first trace → IsTrace first (Leaves p ∷ trace)
  unlocked : (m : Made) {trace : List Tick} → needs_lock m.kind ≡ false → caller_in trace ≢ Some m.pass → IsTrace first trace → IsTrace first (Makes m ∷ trace)
  recording : (call : Call) (m : Made) {trace : List Tick} → IsStepOf first trace call m → IsTrace first trace → IsTrace first (says (recorded_after first trace call m) ++ (Makes m ∷ trace))
  noting : (call : Call) (n : Note) (p : PassId) {trace : List Tick} → caller_in trace ≡ Some p → inside (steps_in trace) p ≡ Nothing → IsTrace first trace → IsTrace first (says (entries_of p (noted call n)) ++ trace)

-- a call enters or leaves
abbrev pub is_turn : Tick → Bool
is_turn (Enters p) = true
is_turn (Leaves p) = true
is_turn (Makes m) = false
is_turn (Says e) = false

-- a call of p has entered after these ticks, and no call has left or entered since
pub record HasEntered (p : PassId) (trace before : List Tick) : Type 0 where
  pub within : List Tick
  pub trace_is : trace ≡ within ++ (Enters p ∷ before)
  pub stays : list_any is_turn within ≡ false

-- the pass is in a call, which entered after what the pass had seen, and found this history
pub record IsInCall (trace : List Tick) (found : List HistoryEntry) (r : PassRecord) : Type 0 where
  pub before : List Tick
  pub entered : HasEntered r.pass trace before
  pub follows : IsExtendedBy r.trace before
  pub found_is : entries_in before ≡ found

-- the trace is one of this history, and a call has entered and not left exactly if the queue's record is joined with that of its pass. That call found this history
pub record IsTraceOf (first : ℕ) (trace : List Tick) (history found : List HistoryEntry) (joined : Option PassRecord) : Type 0 where
  pub is_trace : IsTrace first trace
  pub entries_are : entries_in trace ≡ history
  pub caller_is : caller_in trace ≡ option_map (λ (r : PassRecord). r.pass) joined
  pub in_call : (r : PassRecord) → joined ≡ Some r → IsInCall trace found r

-- a call of a pass that had the record `old` before it and has seen the execution up to its end now: it entered after all that the pass had seen, it found this history, and what the history has gained since is these events
pub record HasCall (old new : PassRecord) (found events : List HistoryEntry) : Type 0 where
  pub before : List Tick
  pub entered : HasEntered old.pass new.trace before
  pub follows : IsExtendedBy old.trace before
  pub found_is : entries_in before ≡ found
  pub events_are : entries_in entered.within ≡ events

-- what a tick needs of the trace before it: a call enters if no other is on its way, and leaves if it is inside of no program under the lock. A step under the lock, and an event, come while a call of their own pass is on its way, and a step without it while none is
abbrev pub MayCome : Tick → List Tick → Type 0
MayCome (Enters p) trace = caller_in trace ≡ None
MayCome (Leaves p) trace = (caller_in trace ≡ Some p) × (has_lock (inside (steps_in trace) p) ≡ false)
MayCome (Makes m) trace = (needs_lock m.kind ≡ true → caller_in trace ≡ Some m.pass) × (needs_lock m.kind ≡ false → caller_in trace ≢ Some m.pass)
MayCome (Says e) trace = caller_in trace ≡ Some e.pass

-- each tick may come where it stands, whoever is in a call has entered, and if one call left before another entered, the events that were added until it left stand in the history before those that are added after the other entered
pub record IsInRealTime (trace : List Tick) : Type 0 where
  pub each : (x : Tick) (newer older : List Tick) → trace ≡ newer ++ (x ∷ older) → MayCome x older
  pub entered : (p : PassId) (newer older : List Tick) → trace ≡ newer ++ older → caller_in older ≡ Some p → (before : List Tick) × HasEntered p older before
  pub order : (p q : PassId) (newer between older : List Tick) → trace ≡ newer ++ (Enters q ∷ (between ++ (Leaves p ∷ older))) → entries_in trace ≡ entries_in newer ++ (entries_in between ++ entries_in older)

-- so is every execution
abbrev pub HistoriesAreInRealTime : Type 0
HistoriesAreInRealTime = (first : ℕ) (trace : List Tick) → IsTrace first trace → IsInRealTime trace

-- the step m recorded the event: it is the next step of a call of the event's pass after the ticks before it, and the event is among those that it records there, which stand directly after it
pub record HasRecorded (first : ℕ) (m : Made) (e : HistoryEntry) (older : List Tick) : Type 0 where
  pub own : m.pass ≡ e.pass
  pub call : Call
  pub before : List Tick
  pub of_call : IsStepOf first before call m
  pub newer : List HistoryEntry
  pub within : List HistoryEntry
  pub recorded_is : recorded_after first before call m ≡ newer ++ (e ∷ within)
  pub older_is : older ≡ says within ++ (Makes m ∷ before)

-- the step m, after these ticks, is the next one of a call, and what it records there stands directly after it
pub record IsRecorded (first : ℕ) (m : Made) (newer before : List Tick) : Type 0 where
  pub call : Call
  pub of_call : IsStepOf first before call m
  pub is_trace : IsTrace first before
  pub later : List Tick
  pub newer_is : newer ≡ later ++ says (recorded_after first before call m)

-- the ticks stand in the order of one execution: each event at a step of its own pass, or it is of a call that makes no step; and each step under the lock has its events there
pub record StandInOrder (first : ℕ) (trace : List Tick) : Type 0 where
  pub is_trace : IsTrace first trace
  pub each_event : (e : HistoryEntry) (newer older : List Tick) → trace ≡ newer ++ (Says e ∷ older) → (is_noted e.event ≡ true) ⊎ ((m : Made) × HasRecorded first m e older)
  pub each_step : (m : Made) (newer older : List Tick) → trace ≡ newer ++ (Makes m ∷ older) → needs_lock m.kind ≡ true → IsRecorded first m newer older

-- so do the events and the steps of every execution
abbrev pub EventsStandInOrder : Type 0
EventsStandInOrder = (first : ℕ) (trace : List Tick) → IsTrace first trace → StandInOrder first trace
