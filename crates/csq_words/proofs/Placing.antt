-- Where the events and the steps of an execution stand in it.
use Rattle.std.proofs.Common.{◌≡◌, ◌⊎◌, inl, inr, ℕ, true, true≢false, List, [], ◌∷◌, ◌++◌, append_assoc, refl, sym, ap, ◌∙◌, subst}
use Rattle.irp_core.specs.Lock.{needs_lock}
use Rattle.csq_words.proofs.Imports.{PassId, Made, Call, Event, HistoryEntry, Tick, entries_of, end_of, recorded, append-nil}
use Rattle.csq_words.specs.declared.calls.Call.TheVariants.{Insert, CloseFile, PutBack}
use Rattle.csq_words.specs.declared.calls.Note.{Note}
use Rattle.csq_words.specs.declared.calls.Note.TheVariants.{Refused}
use Rattle.csq_words.specs.declared.calls.Note.TheVariants as note
use Rattle.csq_words.specs.declared.views.Tick.TheVariants.{Makes, Says}
use Rattle.csq_words.specs.Recorded.{noted, is_noted}
use Rattle.csq_words.specs.Traces.{entries_in, says, IsTrace, IsStepOf, recorded_after, HasRecorded, IsRecorded, EventsStandInOrder}
use Rattle.csq_words.specs.Traces.IsTrace.{at_start, recording, noting, unlocked, entering, leaving}

-- what a pass records is its own
pub own_entry : (p : PassId) (es : List Event) (newer within : List HistoryEntry) (e : HistoryEntry) → entries_of p es ≡ newer ++ (e ∷ within) → p ≡ e.pass
own_entry p [] [] within e is = absurd cc
own_entry p [] (x ∷ newer) within e is = absurd cc
own_entry p (v ∷ es) [] within e is = let same : record { pass = p; event = v } ≡ e = cc in ap (λ (x : HistoryEntry). x.pass) same
own_entry p (v ∷ es) (x ∷ newer) within e is = let rest : entries_of p es ≡ newer ++ (e ∷ within) = cc in own_entry p es newer within e rest

-- the tick stands in order after these, if it is an event
abbrev Stands : ℕ → Tick → List Tick → Type 0
Stands first (Says e) older = (is_noted e.event ≡ true) ⊎ ((m : Made) × HasRecorded first m e older)
Stands first _ older = Unit {0}

abbrev EachStands : ℕ → List Tick → Type 0
EachStands first [] = Unit {0}
EachStands first (x ∷ trace) = Stands first x trace × EachStands first trace

-- so do the events that a step of a call records
recorded_stand : (first : ℕ) (call : Call) (m : Made) (trace : List Tick) → IsStepOf first trace call m → EachStands first trace
    → (newer within : List HistoryEntry) → recorded_after first trace call m ≡ newer ++ within → EachStands first (says within ++ (Makes m ∷ trace))
recorded_stand first call m trace of all newer [] is = (tt, all)
recorded_stand first call m trace of all newer (e ∷ within) is = (
  inr (
    m,
    record {
      own = own_entry m.pass (recorded call m.kind m.found (end_of first (entries_in trace))) newer within e is;
      call = call;
      before = trace;
      of_call = of;
      newer = newer;
      within = within;
      recorded_is = is;
      older_is = refl;
    },
  ),
  recorded_stand first call m trace of all (newer ++ (e ∷ [])) within (is ∙ sym (append_assoc newer (e ∷ []) within)),
)

-- and those that are noted of one
noted_stand : (first : ℕ) (call : Call) (n : Note) (p : PassId) (trace : List Tick) → EachStands first trace → EachStands first (says (entries_of p (noted call n)) ++ trace)
noted_stand first (Insert i f place) (Refused cause) p trace all = (inl refl, all)
noted_stand first (Insert i f place) note.Event p trace all = all
noted_stand first (PutBack i f place) (Refused cause) p trace all = (inl refl, all)
noted_stand first (PutBack i f place) note.Event p trace all = all
noted_stand first (CloseFile f) (Refused cause) p trace all = all
noted_stand first (CloseFile f) note.Event p trace all = (inl refl, all)
noted_stand first call n p trace all = all

each_stands : (first : ℕ) (trace : List Tick) → IsTrace first trace → EachStands first trace
each_stands first trace at_start = tt
each_stands first trace (entering p {trace = t} free rest) = (tt, each_stands first t rest)
each_stands first trace (leaving p {trace = t} in' done rest) = (tt, each_stands first t rest)
each_stands first trace (unlocked m {trace = t} free alone rest) = (tt, each_stands first t rest)
each_stands first trace (recording call m {trace = t} of rest) = recorded_stand first call m t of (each_stands first t rest) [] (recorded_after first t call m) refl
each_stands first trace (noting call n p {trace = t} in' outside rest) = noted_stand first call n p t (each_stands first t rest)

stands_at : (first : ℕ) (x : Tick) (newer older : List Tick) → EachStands first (newer ++ (x ∷ older)) → Stands first x older
stands_at first x [] older all = all.0
stands_at first x (y ∷ newer) older all = stands_at first x newer older all.1

-- a step is none of the events that were added since
behind_says : (m : Made) (es : List HistoryEntry) (trace newer older : List Tick) → says es ++ trace ≡ newer ++ (Makes m ∷ older) → (rest : List Tick) × (newer ≡ says es ++ rest) × (trace ≡ rest ++ (Makes m ∷ older))
behind_says m [] trace newer older is = (newer, refl, is)
behind_says m (e ∷ es) trace [] older is = absurd cc
behind_says m (e ∷ es) trace (x ∷ newer) older is =
    let same : x ≡ Says e = cc in
    let tail : says es ++ trace ≡ newer ++ (Makes m ∷ older) = cc in
    let r = behind_says m es trace newer older tail in
    (r.0, (λ k. same k ∷ r.1 k), r.2)

-- what is added later leaves a step recorded
still_recorded : {first : ℕ} {m : Made} {rest older newer : List Tick} (added : List Tick) → newer ≡ added ++ rest → IsRecorded first m rest older → IsRecorded first m newer older
still_recorded added is r = record { call = r.call; of_call = r.of_call; is_trace = r.is_trace; later = added ++ r.later; newer_is = is ∙ (ap (λ l. added ++ l) r.newer_is ∙ sym (append_assoc added r.later _)) }

-- a step under the lock has its events directly after it
step_recorded : (first : ℕ) (trace : List Tick) → IsTrace first trace → (m : Made) (newer older : List Tick) → trace ≡ newer ++ (Makes m ∷ older) → needs_lock m.kind ≡ true → IsRecorded first m newer older
step_recorded first trace at_start m [] older is locked = absurd cc
step_recorded first trace at_start m (x ∷ newer) older is locked = absurd cc
step_recorded first trace (entering p {trace = t} free rest) m [] older is locked = absurd cc
step_recorded first trace (entering p {trace = t} free rest) m (x ∷ newer) older is locked = let tail : t ≡ newer ++ (Makes m ∷ older) = cc in still_recorded (x ∷ []) refl (step_recorded first t rest m newer older tail locked)
step_recorded first trace (leaving p {trace = t} in' done rest) m [] older is locked = absurd cc
step_recorded first trace (leaving p {trace = t} in' done rest) m (x ∷ newer) older is locked = let tail : t ≡ newer ++ (Makes m ∷ older) = cc in still_recorded (x ∷ []) refl (step_recorded first t rest m newer older tail locked)
step_recorded first trace (unlocked n {trace = t} free alone rest) m [] older is locked = let same : n ≡ m = cc in absurd (true≢false (sym locked ∙ (ap (λ (x : Made). needs_lock x.kind) (sym same) ∙ free)))
step_recorded first trace (unlocked n {trace = t} free alone rest) m (x ∷ newer) older is locked = let tail : t ≡ newer ++ (Makes m ∷ older) = cc in still_recorded (x ∷ []) refl (step_recorded first t rest m newer older tail locked)
step_recorded first trace (recording call n {trace = t} of rest) m newer older is locked =
    go (λ later at. step_recorded first t rest m later older at locked) (behind_says m es (Makes n ∷ t) newer older is)
  where
    es : List HistoryEntry
    es = recorded_after first t call n

    go : ((later : List Tick) → t ≡ later ++ (Makes m ∷ older) → IsRecorded first m later older) → (later : List Tick) × (newer ≡ says es ++ later) × (Makes n ∷ t ≡ later ++ (Makes m ∷ older)) → IsRecorded first m newer older
    go before ([], newer_is, at) =
        let same : n ≡ m = cc in
        let tail : t ≡ older = cc in
        subst (λ (z : Made × List Tick). IsRecorded first z.0 newer z.1) (λ k. (same k, tail k)) record { call = call; of_call = of; is_trace = rest; later = []; newer_is = newer_is ∙ append-nil (says es) }
    go before (x ∷ later, newer_is, at) = let tail : t ≡ later ++ (Makes m ∷ older) = cc in still_recorded (says es ++ (x ∷ [])) (newer_is ∙ sym (append_assoc (says es) (x ∷ []) later)) (before later tail)
step_recorded first trace (noting call n p {trace = t} in' outside rest) m newer older is locked =
    let (later, newer_is, at) = behind_says m (entries_of p (noted call n)) t newer older is in still_recorded (says (entries_of p (noted call n))) newer_is (step_recorded first t rest m later older at locked)

pub in_order : EventsStandInOrder
in_order first trace is = record {
  is_trace = is;
  each_event = λ e newer older at. stands_at first (Says e) newer older (subst (EachStands first) at (each_stands first trace is));
  each_step = λ m newer older at locked. step_recorded first trace is m newer older at locked;
}
