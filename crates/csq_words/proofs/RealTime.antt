-- The history of an execution in real time, and a call in it.
use Rattle.std.proofs.Common.{true, true≢false, ◌≡◌, ℕ, List, [], ◌∷◌, ◌++◌, Some, refl, sym, ap, ◌∙◌, subst}
use Rattle.csq_words.proofs.Imports.{PassId, Kind, Arm, Test, Disarm, End, Renew, Rearm, Call, QueueState, IsOfCall, Event, recorded, end_of, HistoryEntry, PassRecord, IsExtendedBy, Tick, Makes, entries_of}
use Rattle.std.proofs.lemmas.List.{append_cancel_right}
use Rattle.csq_words.specs.declared.views.Tick.{TheVariants.{Enters, Leaves, Says}}
use Rattle.csq_words.specs.Traces.{entries_in, caller_in, says, MayCome, IsTrace, HasEntered, IsInCall, HasCall, HistoriesAreInRealTime}
use Rattle.csq_words.specs.Traces.IsTrace.{at_start, recording, noting, unlocked, entering, leaving}
use Rattle.csq_words.specs.Recorded.{noted}
use Rattle.csq_words.specs.declared.calls.Call.TheVariants.{Insert, RemoveNext, Remove, CancelRoutine, CloseFile, Reuse, GiveBack, PutBack}
use Rattle.irp_core.specs.Lock.{needs_lock}
use Rattle.irp_core.specs.declared.step.Kind.TheVariants as step
use Rattle.csq_words.proofs.Traced.{caller_says}

-- the events of a longer trace
pub entries_over : (newer trace : List Tick) → entries_in (newer ++ trace) ≡ entries_in newer ++ entries_in trace
entries_over [] trace = refl
entries_over (Enters p ∷ newer) trace = entries_over newer trace
entries_over (Leaves p ∷ newer) trace = entries_over newer trace
entries_over (Makes m ∷ newer) trace = entries_over newer trace
entries_over (Says e ∷ newer) trace = ap (λ l. e ∷ l) (entries_over newer trace)

-- whoever is in a call has entered
entered_by : (trace : List Tick) (p : PassId) → caller_in trace ≡ Some p → (before : List Tick) × HasEntered p trace before
entered_by [] p e = absurd (cc)
entered_by (Enters q ∷ trace) p e = let same : q ≡ p = cc in (trace, subst (λ (o : PassId). HasEntered o (Enters q ∷ trace) trace) same record { within = []; trace_is = refl; stays = refl })
entered_by (Leaves q ∷ trace) p e = absurd (cc)
entered_by (Makes m ∷ trace) p e = let r = entered_by trace p e in (r.0, record { within = Makes m ∷ r.1.within; trace_is = ap (λ t. Makes m ∷ t) r.1.trace_is; stays = r.1.stays })
entered_by (Says d ∷ trace) p e = let r = entered_by trace p e in (r.0, record { within = Says d ∷ r.1.within; trace_is = ap (λ t. Says d ∷ t) r.1.trace_is; stays = r.1.stays })

-- it is so at each tick
abbrev EachMayCome : List Tick → Type 0
EachMayCome [] = Unit {0}
EachMayCome (x ∷ trace) = MayCome x trace × EachMayCome trace

says_come : (p : PassId) (es : List Event) (trace : List Tick) → caller_in trace ≡ Some p → EachMayCome trace → EachMayCome (says (entries_of p es) ++ trace)
says_come p [] trace e all = all
says_come p (x ∷ es) trace e all = (caller_says (entries_of p es) trace ∙ e, says_come p es trace e all)

-- a step of a call under the lock needs it
locked_of : (call : Call) (kind : Kind) (u : QueueState) → IsOfCall call kind u → needs_lock kind ≡ true
locked_of call (Arm j) u of = refl
locked_of call (Test j) u of = refl
locked_of call (Disarm j) u of = refl
locked_of call End u of = refl
locked_of call (step.Out j) u of = refl
locked_of call (Renew j) u of = refl
locked_of call (Rearm j) u of = refl
locked_of (Insert n f place) kind u of = absurd of
locked_of (RemoveNext k) kind u of = absurd of
locked_of (Remove i) kind u of = absurd of
locked_of (CancelRoutine n) kind u of = absurd of
locked_of (CloseFile f) kind u of = absurd of
locked_of (Reuse n) kind u of = absurd of
locked_of GiveBack kind u of = absurd of
locked_of (PutBack i f place) kind u of = absurd of

each_comes : (first : ℕ) (trace : List Tick) → IsTrace first trace → EachMayCome trace
each_comes first trace at_start = tt
each_comes first trace (entering p {trace = t} free rest) = (free, each_comes first t rest)
each_comes first trace (leaving p {trace = t} in' done rest) = ((in', done), each_comes first t rest)
each_comes first trace (unlocked m {trace = t} free alone rest) = (((λ l. absurd (true≢false (sym l ∙ free))), (λ f. alone)), each_comes first t rest)
each_comes first trace (recording call m {trace = t} of rest) = says_come m.pass (recorded call m.kind m.found (end_of first (entries_in t))) (Makes m ∷ t) of.caller_is (((λ l. of.caller_is), (λ f. absurd (true≢false (sym (locked_of call m.kind (end_of first (entries_in t)) of.of_call) ∙ f)))), each_comes first t rest)
each_comes first trace (noting call n p {trace = t} in' outside rest) = says_come p (noted call n) t in' (each_comes first t rest)

comes_at : (x : Tick) (newer older : List Tick) → EachMayCome (newer ++ (x ∷ older)) → MayCome x older
comes_at x [] older all = all.0
comes_at x (y ∷ newer) older all = comes_at x newer older all.1

pub in_real_time : HistoriesAreInRealTime
in_real_time first trace is = record {
  each = λ x newer older e. comes_at x newer older (subst EachMayCome e all);
  entered = λ p newer older e caller. entered_by older p caller;
  order = λ p q newer between older e. ap entries_in e ∙ (entries_over newer (Enters q ∷ (between ++ (Leaves p ∷ older))) ∙ ap (λ l. entries_in newer ++ l) (entries_over between (Leaves p ∷ older)));
}
  where
    all : EachMayCome trace
    all = each_comes first trace is

-- the call that a pass was in when it had seen this of the execution, and of which these are the events
pub call_seen : {trace : List Tick} {found history events : List HistoryEntry} {r : PassRecord} → IsInCall trace found r → entries_in trace ≡ history → history ≡ events ++ found
    → (old new : PassRecord) → r.pass ≡ old.pass → r.trace ≡ old.trace → trace ≡ new.trace → HasCall old new found events
call_seen {trace} {found} {history} {events} {r} c entries_are added old new same had seen =
    let whole : entries_in trace ≡ entries_in c.entered.within ++ found = ap entries_in c.entered.trace_is ∙ (entries_over c.entered.within (Enters r.pass ∷ c.before) ∙ ap (λ l. entries_in c.entered.within ++ l) c.found_is) in
    record {
      before = c.before;
      entered = record { within = c.entered.within; trace_is = sym seen ∙ (c.entered.trace_is ∙ ap (λ (p : PassId). c.entered.within ++ (Enters p ∷ c.before)) same); stays = c.entered.stays };
      follows = subst (λ (t : List Tick). IsExtendedBy t c.before) had c.follows;
      found_is = c.found_is;
      events_are = append_cancel_right (entries_in c.entered.within) events found (sym whole ∙ (entries_are ∙ added));
    }
