-- Traces: what a tick more leaves of them, and the ticks of a step with what it records.
use Rattle.std.proofs.Common.{◌≡◌, ℕ, false, List, [], ◌∷◌, ◌++◌, Option, Some, None, refl, sym, ap, ◌∙◌, subst, ◌≢◌}
use Rattle.csq_words.proofs.Imports.{PassId, Kind, Made, inside, has_lock, Call, HistoryEntry, PassRecord, end_of, entries_of, IsExtendedBy, IsOfCall, recorded}
use Rattle.csq_words.specs.declared.calls.Note.{Note}
use Rattle.csq_words.specs.declared.views.Tick.{Tick, TheVariants.{Enters, Leaves, Makes, Says}}
use Rattle.csq_words.specs.Recorded.{noted}
use Rattle.csq_words.specs.Traces.{steps_in, entries_in, caller_in, says, IsNextStep, IsTrace, HasEntered, IsInCall, IsTraceOf}
use Rattle.csq_words.specs.Traces.IsTrace.{recording, noting, unlocked, entering, leaving}
use Rattle.irp_core.specs.Lock.{needs_lock}
use Rattle.irp_core.specs.declared.inside.Inside.TheVariants as inner

-- events are no steps
pub steps_says : (es : List HistoryEntry) (trace : List Tick) → steps_in (says es ++ trace) ≡ steps_in trace
steps_says [] trace = refl
steps_says (e ∷ es) trace = steps_says es trace

-- the steps of a longer trace
pub steps_over : (newer trace : List Tick) → steps_in (newer ++ trace) ≡ steps_in newer ++ steps_in trace
steps_over [] trace = refl
steps_over (Enters p ∷ newer) trace = steps_over newer trace
steps_over (Leaves p ∷ newer) trace = steps_over newer trace
steps_over (Makes m ∷ newer) trace = ap (λ l. m ∷ l) (steps_over newer trace)
steps_over (Says e ∷ newer) trace = steps_over newer trace

pub steps_extended : {shorter longer : List Tick} → IsExtendedBy shorter longer → IsExtendedBy (steps_in shorter) (steps_in longer)
steps_extended {shorter} h = (steps_in h.0, ap steps_in h.1 ∙ steps_over h.0 shorter)

-- and no call enters or leaves by them
pub caller_says : (es : List HistoryEntry) (trace : List Tick) → caller_in (says es ++ trace) ≡ caller_in trace
caller_says [] trace = refl
caller_says (e ∷ es) trace = caller_says es trace

pub entries_says : (es : List HistoryEntry) (trace : List Tick) → entries_in (says es ++ trace) ≡ es ++ entries_in trace
entries_says [] trace = refl
entries_says (e ∷ es) trace = ap (λ l. e ∷ l) (entries_says es trace)

-- a call that is on its way stays so over a step and over an event
in_call_step : (m : Made) {trace : List Tick} {found : List HistoryEntry} {r : PassRecord} → IsInCall trace found r → IsInCall (Makes m ∷ trace) found r
in_call_step m c = record { before = c.before; entered = record { within = Makes m ∷ c.entered.within; trace_is = ap (λ t. Makes m ∷ t) c.entered.trace_is; stays = c.entered.stays }; follows = c.follows; found_is = c.found_is }

in_call_says : (es : List HistoryEntry) {trace : List Tick} {found : List HistoryEntry} {r : PassRecord} → IsInCall trace found r → IsInCall (says es ++ trace) found r
in_call_says [] c = c
in_call_says (e ∷ es) {trace} {found} {r} c =
    let d = in_call_says es c in
    record { before = d.before; entered = record { within = Says e ∷ d.entered.within; trace_is = ap (λ t. Says e ∷ t) d.entered.trace_is; stays = d.entered.stays }; follows = d.follows; found_is = d.found_is }

-- the same for another record of its pass, which has seen the same
in_call_as : {trace : List Tick} {found : List HistoryEntry} {r r' : PassRecord} → r'.pass ≡ r.pass → r'.trace ≡ r.trace → IsInCall trace found r → IsInCall trace found r'
in_call_as {trace} same seen c = record {
  before = c.before;
  entered = subst (λ (p : PassId). HasEntered p trace c.before) (sym same) c.entered;
  follows = subst (λ (t : List Tick). IsExtendedBy t c.before) (sym seen) c.follows;
  found_is = c.found_is;
}

-- a step without the lock is a tick more
pub traced_unlocked : (m : Made) {first : ℕ} {trace : List Tick} {history found : List HistoryEntry} {joined : Option PassRecord} → needs_lock m.kind ≡ false → caller_in trace ≢ Some m.pass → IsTraceOf first trace history found joined → IsTraceOf first (Makes m ∷ trace) history found joined
traced_unlocked m free alone t = record { is_trace = unlocked m free alone t.is_trace; entries_are = t.entries_are; caller_is = t.caller_is; in_call = λ r e. in_call_step m (t.in_call r e) }

-- a call enters
pub traced_enters : {first : ℕ} {trace : List Tick} {history found : List HistoryEntry} (r : PassRecord) → IsExtendedBy r.trace trace → IsTraceOf first trace history found None → IsTraceOf first (Enters r.pass ∷ trace) history history (Some r)
traced_enters {first} {trace} {history} r seen t = record {
  is_trace = entering r.pass t.caller_is t.is_trace;
  entries_are = t.entries_are;
  caller_is = refl;
  in_call = λ o e. let same : r ≡ o = cc e in subst (IsInCall (Enters r.pass ∷ trace) history) same record { before = trace; entered = record { within = []; trace_is = refl; stays = refl }; follows = seen; found_is = t.entries_are };
}

-- and leaves
pub traced_leaves : {first : ℕ} {trace : List Tick} {history found : List HistoryEntry} (r : PassRecord) → has_lock (inside (steps_in trace) r.pass) ≡ false → IsTraceOf first trace history found (Some r) → IsTraceOf first (Leaves r.pass ∷ trace) history found None
traced_leaves {first} {trace} r done t = record { is_trace = leaving r.pass t.caller_is done t.is_trace; entries_are = t.entries_are; caller_is = refl; in_call = λ o e. absurd (cc) }

module _ {first : ℕ} {trace : List Tick} {history found : List HistoryEntry} {r : PassRecord} (t : IsTraceOf first trace history found (Some r)) where
  -- a step of the call that is on its way is a tick more, directly followed by what it records
  pub step_traced : (call : Call) (kind : Kind) (n : ℕ) → IsOfCall call kind (end_of first history) → IsNextStep call kind (inside (steps_in trace) r.pass)
      → IsTrace first (says (entries_of r.pass (recorded call kind n (end_of first history))) ++ (Makes record { pass = r.pass; kind = kind; found = n } ∷ trace))
  step_traced call kind n of_call next =
      let m : Made = record { pass = r.pass; kind = kind; found = n } in
      subst (λ (h : List HistoryEntry). IsTrace first (says (entries_of r.pass (recorded call kind n (end_of first h))) ++ (Makes m ∷ trace))) t.entries_are
      (recording call m record { caller_is = t.caller_is; of_call = subst (λ (h : List HistoryEntry). IsOfCall call kind (end_of first h)) (sym t.entries_are) of_call; next = next } t.is_trace)

  -- what is noted of it is added
  pub note_traced : (call : Call) (n : Note) → inside (steps_in trace) r.pass ≡ inner.Nothing → IsTrace first (says (entries_of r.pass (noted call n)) ++ trace)
  note_traced call n outside = noting call n r.pass t.caller_is outside t.is_trace

  -- so it is the trace of the longer history
  pub traced_noted : (es : List HistoryEntry) (r' : PassRecord) → r'.pass ≡ r.pass → r'.trace ≡ r.trace → IsTrace first (says es ++ trace) → IsTraceOf first (says es ++ trace) (es ++ history) found (Some r')
  traced_noted es r' same seen is = record {
    is_trace = is;
    entries_are = entries_says es trace ∙ ap (λ h. es ++ h) t.entries_are;
    caller_is = caller_says es trace ∙ (t.caller_is ∙ ap (λ (p : PassId). Some p) (sym same));
    in_call = λ o e. let at : r' ≡ o = cc e in subst (IsInCall (says es ++ trace) found) at (in_call_says es (in_call_as same seen (t.in_call r refl)));
  }

  pub traced_made : (es : List HistoryEntry) (m : Made) (r' : PassRecord) → r'.pass ≡ r.pass → r'.trace ≡ r.trace → IsTrace first (says es ++ (Makes m ∷ trace)) → IsTraceOf first (says es ++ (Makes m ∷ trace)) (es ++ history) found (Some r')
  traced_made es m r' same seen is = record {
    is_trace = is;
    entries_are = entries_says es (Makes m ∷ trace) ∙ ap (λ h. es ++ h) t.entries_are;
    caller_is = caller_says es (Makes m ∷ trace) ∙ (t.caller_is ∙ ap (λ (p : PassId). Some p) (sym same));
    in_call = λ o e. let at : r' ≡ o = cc e in subst (IsInCall (says es ++ (Makes m ∷ trace)) found) at (in_call_says es (in_call_step m (in_call_as same seen (t.in_call r refl))));
  }
