-- What the fields of a run exclude, and the order in which events stand in it.
use Rattle.std.proofs.Common.{inl, inr, ◌≡◌, ◌⊎◌, ◌≢◌, ℕ, zero, suc, ◌||◌, Bool, true, false, cond, true≢false, Option, Some, None, List, [], ◌∷◌, ◌++◌, append_assoc, refl, sym, ap, ◌∙◌, subst, arith}
use Rattle.std.proofs.lemmas.Bool.{or_right}
use Rattle.std.specs.List.{list_any}
use Rattle.irp_core.specs.declared.ids.FileId.{FileId}
use Rattle.irp_core.specs.declared.ids.IrpId.{IrpId}
use Rattle.irp_core.specs.declared.ids.IrpLife.{IrpLife}
use Rattle.irp_core.specs.declared.ids.PassId.{PassId}
use Rattle.irp_core.specs.declared.step.Kind.{Kind}
use Rattle.irp_core.specs.declared.step.Kind.TheVariants.{Arm, Test, Disarm, End, Flag, Take, Out, Done, Renew, Rearm}
use Rattle.irp_core.specs.declared.step.Made.{Made}
use Rattle.irp_core.specs.Runs.{Size, IsRun}
use Rattle.irp_core.specs.Steps.{same_pass, same_irp, same_id, by}
use Rattle.irp_core.proofs.Growing.{run_last, run_less}
use Rattle.irp_core.proofs.Names.{same_pass-refl, same_id-refl}
use Rattle.csq_words.specs.declared.calls.Call.{Call}
use Rattle.csq_words.specs.declared.calls.Call.TheVariants.{Insert, RemoveNext, Remove, CancelRoutine, CloseFile, Reuse, PutBack, GiveBack}
use Rattle.csq_list.specs.declared.refusals.InsertStatus.{InsertStatus}
use Rattle.csq_words.specs.declared.views.InsertReply.TheVariants.{Pending}
use Rattle.csq_words.specs.declared.views.Event.{Event}
use Rattle.csq_words.specs.declared.views.Event.TheVariants as event
use Rattle.csq_words.specs.declared.views.HistoryEntry.{HistoryEntry}
use Rattle.csq_words.specs.Queue.{QueueState, has_unmarked, reply_to_insert}
use Rattle.csq_words.specs.History.{end_of}
use Rattle.csq_words.specs.Records.{entries_of}
use Rattle.csq_words.specs.declared.views.Tick.{Tick, TheVariants.{Enters, Leaves, Makes, Says}}
use Rattle.csq_words.specs.Recorded.{recorded, is_noted, IsOfCall}
use Rattle.csq_words.specs.Traces.{steps_in, entries_in, says, recorded_after, IsTrace, HasRecorded}
use Rattle.csq_words.specs.Rule.{BackOnce}
use Rattle.csq_words.proofs.Placing.{in_order}
use Rattle.csq_words.proofs.RealTime.{entries_over}
use Rattle.csq_words.proofs.Traced.{steps_says, steps_over, entries_says}
use Rattle.irp_core.specs.Lock.{needs_lock}
use Rattle.test_protocol.specs.Excluded.{pass, irp, did, said, inserted, removed, found_none, inserts_of, removed_by_2, completed_with, Agree, NoneIsARun, NoneIsAHistory}

late_take_is : (size : Size) → IsRun size (did 3 (Take (irp 0 0)) 1 ∷ did 1 (Test (irp 0 1)) 0 ∷ did 1 (Arm (irp 0 1)) 0 ∷ did 2 (Renew (irp 0 0)) 0 ∷ did 3 (Flag (irp 0 0)) 0 ∷ did 2 (Done (irp 0 0)) 0 ∷ removed_by_2) → ⊥
unfolding same_pass same_irp
late_take_is size r = let e : 1 ≡ 0 = r.found.0 in absurd (omega arith)

late_flag_is : IsRun (record { irps = 1; passes = 3; first = 0 }) (did 3 (Flag (irp 0 0)) 0 ∷ did 2 (Renew (irp 0 0)) 0 ∷ did 2 (Done (irp 0 0)) 0 ∷ removed_by_2) → ⊥
unfolding same_pass same_irp same_id
late_flag_is r = let e : 0 ≡ 1 = r.owned.0 in absurd (omega arith)

-- none of the executions is a run
pub none_is_a_run : NoneIsARun
unfolding same_pass same_irp
none_is_a_run = record {
  unknown_irp = λ r. (let known = r.known.0.irp in absurd (omega (arith, known)));
  unknown_pass = λ r. (let known = r.known.0.to in absurd (omega (arith, known)));
  two_claims = λ size r. (let e : 1 ≡ 0 = r.found.0 in absurd (omega arith));
  stranger = λ size r. (let e : false ≡ true = r.owned.0 in cc);
  completed_twice = λ size r. (let e : false ≡ true = r.owned.0 in cc);
  late_take = late_take_is;
  late_flag = late_flag_is;
  lost = λ r. (let e : true ≡ false = r.held (pass 2) (irp 0 0) in cc);
  cancelled_put_back = λ size r. (let e : false ≡ true = r.owned.0 in cc);
  put_back_by_another = λ size r. (let e : false ≡ true = r.owned.0 in cc);
  taken_out_put_back = λ size r. (let e : false ≡ true = r.owned.0 in cc);
  put_back_twice = λ size r. (let e : false ≡ true = r.owned.0 in cc);
  completed_put_back = λ size r. (let e : false ≡ true = r.owned.0 in cc);
  flag_missed = λ size r. (let e : 0 ≡ 1 = r.found.0 in absurd (omega arith));
  unlisted = λ size r. (let e : false ≡ true = r.owned.0 in cc);
  test_first = λ size r. (let l = run_last size (did 1 (Test (irp 0 0)) 0) [] (run_less size (did 1 (Arm (irp 0 0)) 0) (did 1 (Test (irp 0 0)) 0 ∷ []) r) in let e : false ≡ true = l.next in cc);
}

-- an event that isn't noted stands at a step
step_of : {e : HistoryEntry} {now : List Tick} → (is_noted e.event ≡ true) ⊎ ((m : Made) × HasRecorded 0 m e now) → is_noted e.event ≡ false → (m : Made) × HasRecorded 0 m e now
step_of (inl noted) quiet = absurd (true≢false (sym noted ∙ quiet))
step_of (inr made) quiet = made

-- it is the newest step then
newest : {m : Made} {e : HistoryEntry} {now : List Tick} (h : HasRecorded 0 m e now) → steps_in now ≡ m ∷ steps_in h.before
newest {m} h = ap steps_in h.older_is ∙ steps_says h.within (Makes m ∷ h.before)

-- where an event of the history stands in the execution
said_at : (trace : List Tick) (newer older : List HistoryEntry) (e : HistoryEntry) → entries_in trace ≡ newer ++ (e ∷ older) → (later now : List Tick) × (trace ≡ later ++ (Says e ∷ now)) × (entries_in now ≡ older)
said_at [] [] older e is = absurd cc
said_at [] (x ∷ newer) older e is = absurd cc
said_at (Enters p ∷ trace) newer older e is = let r = said_at trace newer older e is in (Enters p ∷ r.0, r.1, ap (λ l. Enters p ∷ l) r.2, r.3)
said_at (Leaves p ∷ trace) newer older e is = let r = said_at trace newer older e is in (Leaves p ∷ r.0, r.1, ap (λ l. Leaves p ∷ l) r.2, r.3)
said_at (Makes m ∷ trace) newer older e is = let r = said_at trace newer older e is in (Makes m ∷ r.0, r.1, ap (λ l. Makes m ∷ l) r.2, r.3)
said_at (Says d ∷ trace) [] older e is = let same : d ≡ e = cc in let rest : entries_in trace ≡ older = cc in ([], trace, ap (λ x. Says x ∷ trace) same, rest)
said_at (Says d ∷ trace) (x ∷ newer) older e is = let rest : entries_in trace ≡ newer ++ (e ∷ older) = cc in let r = said_at trace newer older e rest in (Says d ∷ r.0, r.1, ap (λ l. Says d ∷ l) r.2, r.3)

-- and where a step does
made_at : (trace : List Tick) (newer older : List Made) (m : Made) → steps_in trace ≡ newer ++ (m ∷ older) → (later now : List Tick) × (trace ≡ later ++ (Makes m ∷ now)) × (steps_in now ≡ older)
made_at [] [] older m is = absurd cc
made_at [] (x ∷ newer) older m is = absurd cc
made_at (Enters p ∷ trace) newer older m is = let r = made_at trace newer older m is in (Enters p ∷ r.0, r.1, ap (λ l. Enters p ∷ l) r.2, r.3)
made_at (Leaves p ∷ trace) newer older m is = let r = made_at trace newer older m is in (Leaves p ∷ r.0, r.1, ap (λ l. Leaves p ∷ l) r.2, r.3)
made_at (Says e ∷ trace) newer older m is = let r = made_at trace newer older m is in (Says e ∷ r.0, r.1, ap (λ l. Says e ∷ l) r.2, r.3)
made_at (Makes n ∷ trace) [] older m is = let same : n ≡ m = cc in let rest : steps_in trace ≡ older = cc in ([], trace, ap (λ x. Makes x ∷ trace) same, rest)
made_at (Makes n ∷ trace) (x ∷ newer) older m is = let rest : steps_in trace ≡ newer ++ (m ∷ older) = cc in let r = made_at trace newer older m rest in (Makes n ∷ r.0, r.1, ap (λ l. Makes n ∷ l) r.2, r.3)

-- an execution with these steps and this history
record Ran (run : List Made) (history : List HistoryEntry) : Type 0 where
  trace : List Tick
  is_trace : IsTrace 0 trace
  steps_are : steps_in trace ≡ run
  entries_are : entries_in trace ≡ history

-- what the step m, after these steps, recorded of this history
record Recorded (m : Made) (earlier : List Made) (history : List HistoryEntry) : Type 0 where
  call : Call
  newer : List HistoryEntry
  before : List HistoryEntry
  of_call : IsOfCall call m.kind (end_of 0 before)
  history_is : history ≡ newer ++ (entries_of m.pass (recorded call m.kind m.found (end_of 0 before)) ++ before)
  ran : Ran earlier before

step_recorded : {run : List Made} {history : List HistoryEntry} → Ran run history → (later earlier : List Made) (m : Made) → run ≡ later ++ (m ∷ earlier) → needs_lock m.kind ≡ true → Recorded m earlier history
step_recorded r later earlier m is locked =
    let (newer, now, at, rest) = made_at r.trace later earlier m (r.steps_are ∙ is) in
    let s = (in_order 0 r.trace r.is_trace).each_step m newer now at locked in
    let es = recorded_after 0 now s.call m in
    let whole : r.trace ≡ s.later ++ (says es ++ (Makes m ∷ now)) = at ∙ (ap (λ l. l ++ (Makes m ∷ now)) s.newer_is ∙ append_assoc s.later (says es) (Makes m ∷ now)) in
    record {
      call = s.call;
      newer = entries_in s.later;
      before = entries_in now;
      of_call = s.of_call.of_call;
      history_is = sym r.entries_are ∙ (ap entries_in whole ∙ (entries_over s.later (says es ++ (Makes m ∷ now)) ∙ ap (λ l. entries_in s.later ++ l) (entries_says es (Makes m ∷ now))));
      ran = record { trace = now; is_trace = s.is_trace; steps_are = rest; entries_are = refl };
    }

-- what is said of a step holds of one of an execution that has it
any_in : (g : Made → Bool) (newer older : List Made) (m : Made) → g m ≡ true → list_any g (newer ++ (m ∷ older)) ≡ true
any_in g [] older m h = ap (λ b. b || list_any g older) h
any_in g (x ∷ newer) older m h = or_right (g x) (list_any g (newer ++ (m ∷ older))) (any_in g newer older m h)

-- an event needs a step that records it
nowhere : (g : Made → Bool) (run : List Made) → list_any g run ≡ false → (later now : List Made) → run ≡ later ++ now → (m : Made) (older : List Made) → now ≡ m ∷ older → g m ≡ true → ⊥
nowhere g run none later now at m older is h = true≢false (sym (any_in g later older m h) ∙ (ap (λ (l : List Made). list_any g (later ++ l)) (sym is) ∙ (ap (list_any g) (sym at) ∙ none)))

-- the newest step doesn't record the newer of two events, and no other records the older one
in_turn : (g g' : Made → Bool) (x : Made) (rest : List Made) → g' x ≡ false → list_any g rest ≡ false
    → (later now : List Made) → x ∷ rest ≡ later ++ now → (m' : Made) (older' : List Made) → now ≡ m' ∷ older' → g' m' ≡ true → (since was : List Made) → now ≡ since ++ was → (m : Made) (older : List Made) → was ≡ m ∷ older → g m ≡ true → ⊥
in_turn g g' x rest wrong none [] now at m' older' is' h' since was more m older is h = let same : x ≡ m' = (let whole : x ∷ rest ≡ m' ∷ older' = at ∙ is' in cc) in true≢false (sym h' ∙ (ap g' (sym same) ∙ wrong))
in_turn g g' x rest wrong none (y ∷ later) now at m' older' is' h' since was more m older is h =
    let tail : rest ≡ later ++ now = cc in
    nowhere g rest none (later ++ since) was (tail ∙ (ap (λ (l : List Made). later ++ l) more ∙ sym (append_assoc later since was))) m older is h

-- what is said of an event holds of one of those that its step recorded
any_said : (f : Event → Bool) (p : PassId) (es : List Event) (newer within : List HistoryEntry) (e : HistoryEntry) → entries_of p es ≡ newer ++ (e ∷ within) → f e.event ≡ true → list_any f es ≡ true
any_said f p [] [] within e is h = absurd cc
any_said f p [] (x ∷ newer) within e is h = absurd cc
any_said f p (v ∷ es) [] within e is h = let same : record { pass = p; event = v } ≡ e = cc in ap (λ b. b || list_any f es) (ap (λ (x : HistoryEntry). f x.event) same ∙ h)
any_said f p (v ∷ es) (x ∷ newer) within e is h = let rest : entries_of p es ≡ newer ++ (e ∷ within) = cc in or_right (f v) (list_any f es) (any_said f p es newer within e rest h)

-- an insert of IRP n, which is pending
inserts_irp : IrpId → Event → Bool
inserts_irp n (event.Insert m f place Pending) = same_id m n
inserts_irp n _ = false

-- an insert of IRP n ends with a step of this kind
ends_insert : IrpId → Kind → Bool
ends_insert n (Test j) = same_id j.irp n
ends_insert n (Disarm j) = same_id j.irp n
ends_insert n _ = false

-- a mark
is_mark : Event → Bool
is_mark (event.Mark i) = true
is_mark _ = false

-- a step of this kind may find that a mark is due
may_mark : Kind → Bool
may_mark (Disarm j) = true
may_mark (Out j) = true
may_mark _ = false

-- a disjunction with false
or_none : (b : Bool) → (b || false) ≡ true → b ≡ true
or_none true h = refl
or_none false h = h

-- a mark that is due is no insert
due_inserts_none : (n : IrpId) (i : IrpLife) (b : Bool) → list_any (inserts_irp n) (cond b (event.Mark i ∷ []) []) ≡ true → ⊥
unfolding inserts_irp
due_inserts_none n i true h = absurd cc
due_inserts_none n i false h = absurd cc

-- an insert is recorded by a step of its own IRP
insert_ends : (n : IrpId) (call : Call) (kind : Kind) (v : ℕ) (u : QueueState) → IsOfCall call kind u → list_any (inserts_irp n) (recorded call kind v u) ≡ true → ends_insert n kind ≡ true
unfolding inserts_irp ends_insert
insert_ends n (Insert k f place) (Test j) zero u of h = ap (λ (x : IrpLife). same_id x.irp n) of ∙ or_none (same_id k n) h
insert_ends n (Insert k f place) (Test j) (suc v) u of h = absurd cc
insert_ends n (Insert k f place) (Disarm j) zero u of h = ap (λ (x : IrpLife). same_id x.irp n) of ∙ or_none (same_id k n) h
insert_ends n (Insert k f place) (Disarm j) (suc v) u of h = absurd cc
insert_ends n (Insert k f place) (Arm j) v u of h = absurd cc
insert_ends n (Insert k f place) End v u of h = absurd cc
insert_ends n (Insert k f place) (Flag j) v u of h = absurd cc
insert_ends n (Insert k f place) (Take j) v u of h = absurd cc
insert_ends n (Insert k f place) (Out j) v u of h = absurd cc
insert_ends n (Insert k f place) (Done j) v u of h = absurd cc
insert_ends n (Insert k f place) (Renew j) v u of h = absurd cc
insert_ends n (Insert k f place) (Rearm j) v u of h = absurd cc
insert_ends n (RemoveNext k) (Disarm j) zero u of h = absurd (due_inserts_none n j (has_unmarked u.entries j) h)
insert_ends n (RemoveNext k) (Disarm j) (suc v) u of h = absurd cc
insert_ends n (RemoveNext k) kind v u of h = absurd cc
insert_ends n (Remove i) (Disarm j) zero u of h = absurd (due_inserts_none n i (has_unmarked u.entries i) h)
insert_ends n (Remove i) (Disarm j) (suc v) u of h = absurd cc
insert_ends n (Remove i) kind v u of h = absurd cc
insert_ends n (CancelRoutine i) (Out j) v u of h = absurd (due_inserts_none n j (has_unmarked u.entries j) h)
insert_ends n (CancelRoutine i) kind v u of h = absurd cc
insert_ends n (CloseFile f) kind v u of h = absurd cc
insert_ends n (Reuse m) (Renew j) v u of h = absurd cc
insert_ends n (Reuse m) kind v u of h = absurd cc
insert_ends n (PutBack i f place) (Test j) zero u of h = absurd cc
insert_ends n (PutBack i f place) (Test j) (suc v) u of h = absurd cc
insert_ends n (PutBack i f place) (Disarm j) zero u of h = absurd cc
insert_ends n (PutBack i f place) (Disarm j) (suc v) u of h = absurd cc
insert_ends n (PutBack i f place) kind v u of h = absurd cc
insert_ends n GiveBack kind v u of h = absurd cc

-- a mark is recorded by an exchange under the lock, or by a cancel routine
mark_needs : (call : Call) (kind : Kind) (v : ℕ) (u : QueueState) → list_any is_mark (recorded call kind v u) ≡ true → may_mark kind ≡ true
unfolding is_mark may_mark
mark_needs call (Disarm j) v u h = refl
mark_needs call (Out j) v u h = refl
mark_needs (Insert k f place) (Test j) zero u h = absurd cc
mark_needs (Insert k f place) (Test j) (suc v) u h = absurd cc
mark_needs (Insert k f place) kind v u h = absurd cc
mark_needs (RemoveNext k) End v u h = absurd cc
mark_needs (RemoveNext k) kind v u h = absurd cc
mark_needs (Remove i) End v u h = absurd cc
mark_needs (Remove i) kind v u h = absurd cc
mark_needs (CancelRoutine i) kind v u h = absurd cc
mark_needs (CloseFile f) kind v u h = absurd cc
mark_needs (Reuse m) (Renew j) v u h = absurd cc
mark_needs (Reuse m) kind v u h = absurd cc
mark_needs (PutBack i f place) (Test j) zero u h = absurd cc
mark_needs (PutBack i f place) (Test j) (suc v) u h = absurd cc
mark_needs (PutBack i f place) kind v u h = absurd cc
mark_needs GiveBack kind v u h = absurd cc

-- the step of a pass
by_own : (p : PassId) (m : Made) → m.pass ≡ p → by p m ≡ true
by_own p m is = ap (λ q. same_pass q p) is ∙ same_pass-refl p

module _ (run : List Made) (history : List HistoryEntry) (r : Ran run history) where
  -- the one event of a history stands nowhere in an execution that has no such step
  stands_nowhere : (g : Made → Bool) → list_any g run ≡ false → (newer older : List HistoryEntry) (e : HistoryEntry) → history ≡ newer ++ (e ∷ older) → is_noted e.event ≡ false → ((m : Made) (now : List Tick) → HasRecorded 0 m e now → g m ≡ true) → ⊥
  stands_nowhere g none newer older e at quiet owed =
      let (later, now, is, _) = said_at r.trace newer older e (r.entries_are ∙ at) in
      let (m, h) = step_of ((in_order 0 r.trace r.is_trace).each_event e later now is) quiet in
      nowhere g run none (steps_in later) (steps_in now) (sym r.steps_are ∙ (ap steps_in is ∙ steps_over later (Says e ∷ now))) m (steps_in h.before) (newest h) (owed m now h)

  -- two events whose steps stand in the other order
  stand_turned : (g g' : Made → Bool) (x : Made) (rest : List Made) → run ≡ x ∷ rest → g' x ≡ false → list_any g rest ≡ false → (o e : HistoryEntry) → history ≡ e ∷ o ∷ [] → is_noted e.event ≡ false → is_noted o.event ≡ false
      → ((m : Made) (now : List Tick) → HasRecorded 0 m e now → g' m ≡ true) → ((m : Made) (now : List Tick) → HasRecorded 0 m o now → g m ≡ true) → ⊥
  stand_turned g g' x rest begins wrong none o e are quiet quiet' owed owed' =
      let each = (in_order 0 r.trace r.is_trace).each_event in
      let (later, now, is, left) = said_at r.trace [] (o ∷ []) e (r.entries_are ∙ are) in
      let (since, was, is', _) = said_at now [] [] o left in
      let (m', h') = step_of (each e later now is) quiet in
      let (m, h) = step_of (each o (later ++ (Says e ∷ since)) was (is ∙ (ap (λ l. later ++ (Says e ∷ l)) is' ∙ sym (append_assoc later (Says e ∷ since) (Says o ∷ was))))) quiet' in
      in_turn g g' x rest wrong none (steps_in later) (steps_in now) (sym begins ∙ (sym r.steps_are ∙ (ap steps_in is ∙ steps_over later (Says e ∷ now)))) m' (steps_in h'.before) (newest h') (owed m' now h')
      (steps_in since) (steps_in was) (ap steps_in is' ∙ steps_over since (Says o ∷ was)) m (steps_in h.before) (newest h) (owed' m was h)

-- a step of an insert of IRP n
step_of_insert : (p n : ℕ) (m : Made) (now : List Tick) → HasRecorded 0 m (inserted p n) now → ends_insert (record { 0 = n }) m.kind ≡ true
unfolding inserts_irp same_id
step_of_insert p n m now h = insert_ends (record { 0 = n }) h.call m.kind m.found (end_of 0 (entries_in h.before)) h.of_call.of_call
    (any_said (inserts_irp (record { 0 = n })) m.pass (recorded h.call m.kind m.found (end_of 0 (entries_in h.before))) h.newer h.within (inserted p n) h.recorded_is (same_id-refl (record { 0 = n })))

turned_is : Ran (inserts_of 0 (inserts_of 1 [])) (inserted 1 1 ∷ inserted 1 0 ∷ []) → ⊥
unfolding ends_insert same_id
turned_is r = stand_turned (inserts_of 0 (inserts_of 1 [])) (inserted 1 1 ∷ inserted 1 0 ∷ []) r
    (λ m. ends_insert (record { 0 = 0 }) m.kind) (λ m. ends_insert (record { 0 = 1 }) m.kind) (did 1 (Test (irp 0 0)) 0) (did 1 (Arm (irp 0 0)) 0 ∷ inserts_of 1 []) refl refl refl (inserted 1 0) (inserted 1 1) refl refl refl
    (step_of_insert 1 1) (step_of_insert 1 0)

marked_is : (run : List Made) → run ≡ did 2 (Take (irp 0 0)) 1 ∷ did 2 (Flag (irp 0 0)) 0 ∷ did 1 End 0 ∷ inserts_of 0 [] → Ran run (found_none 1 ∷ said 1 (event.Mark (irp 0 0)) ∷ inserted 1 0 ∷ []) → ⊥
unfolding may_mark is_mark
marked_is run is r = stands_nowhere run (found_none 1 ∷ said 1 (event.Mark (irp 0 0)) ∷ inserted 1 0 ∷ []) r (λ m. may_mark m.kind) (ap (list_any (λ (m : Made). may_mark m.kind)) is) (found_none 1 ∷ []) (inserted 1 0 ∷ []) (said 1 (event.Mark (irp 0 0))) refl refl
    (λ m now h. mark_needs h.call m.kind m.found (end_of 0 (entries_in h.before)) (any_said is_mark m.pass (recorded h.call m.kind m.found (end_of 0 (entries_in h.before))) h.newer h.within (said 1 (event.Mark (irp 0 0))) h.recorded_is refl))

-- an end of a removal records an event
end_says : (call : Call) (u : QueueState) → IsOfCall call End u → recorded call End 0 u ≢ []
end_says (RemoveNext k) u of none = absurd cc
end_says (Remove i) u of none = absurd cc
end_says (Insert n f place) u of none = absurd of
end_says (CancelRoutine n) u of none = absurd of
end_says (CloseFile f) u of none = absurd of
end_says (Reuse n) u of none = absurd of
end_says (PutBack i f place) u of none = absurd of
end_says GiveBack u of none = absurd of

-- so it is the newest of the history, if it is the last step
left_out_is : Ran (did 2 End 0 ∷ inserts_of 0 []) (inserted 1 0 ∷ []) → ⊥
left_out_is ran = let r = step_recorded ran [] (inserts_of 0 []) (did 2 End 0) refl refl in go r.newer (recorded r.call End 0 (end_of 0 r.before)) r.before (end_says r.call (end_of 0 r.before) r.of_call) r.history_is
  where
    go : (newer : List HistoryEntry) (es : List Event) (before : List HistoryEntry) → es ≢ [] → inserted 1 0 ∷ [] ≡ newer ++ (entries_of (pass 2) es ++ before) → ⊥
    go newer [] before says is = says refl
    go [] (v ∷ es) before says is = let same : inserted 1 0 ≡ record { pass = pass 2; event = v } = cc in let e : 1 ≡ 2 = ap (λ (x : HistoryEntry). x.pass.0) same in absurd (omega (arith, e))
    go (x ∷ []) (v ∷ es) before says is = absurd cc
    go (x ∷ y ∷ newer) (v ∷ es) before says is = absurd cc

-- an insert or a put-back that is pending
is_pending : Event → Bool
is_pending (event.Insert n f place Pending) = true
is_pending (event.PutBack i f place Pending) = true
is_pending _ = false

-- a test that finds the flag clear records one
test_says : (call : Call) (u : QueueState) → IsOfCall call (Test (irp 0 0)) u → (v : Event) × (is_pending v ≡ true) × (recorded call (Test (irp 0 0)) 0 u ≡ v ∷ [])
unfolding is_pending
test_says (Insert n f place) u of = (event.Insert n f place Pending, refl, refl)
test_says (PutBack i f place) u of = (event.PutBack i f place Pending, refl, refl)
test_says (RemoveNext k) u of = absurd of
test_says (Remove i) u of = absurd of
test_says (CancelRoutine n) u of = absurd of
test_says (CloseFile f) u of = absurd of
test_says (Reuse n) u of = absurd of
test_says GiveBack u of = absurd of

-- it is none of the other events
other_event : (e : HistoryEntry) (p : ℕ) (v : Event) → is_pending v ≡ true → is_pending e.event ≡ false → e ≡ said p v → ⊥
other_event e p v pending not_pending is = true≢false (sym pending ∙ (sym (ap (λ (x : HistoryEntry). is_pending x.event) is) ∙ not_pending))

-- it is the newest of the history, if its test is the last step
unrecorded_is : Ran (did 2 (Test (irp 0 0)) 0 ∷ did 2 (Rearm (irp 0 0)) 0 ∷ removed_by_2) (removed 2 ∷ inserted 1 0 ∷ []) → ⊥
unfolding is_pending
unrecorded_is ran =
    let earlier = did 2 (Rearm (irp 0 0)) 0 ∷ removed_by_2 in
    let r = step_recorded ran [] earlier (did 2 (Test (irp 0 0)) 0) refl refl in
    let said' = test_says r.call (end_of 0 r.before) r.of_call in go r.newer r.before said'.0 said'.1 (r.history_is ∙ ap (λ (es : List Event). r.newer ++ (entries_of (pass 2) es ++ r.before)) said'.2)
  where
    go : (newer before : List HistoryEntry) (v : Event) → is_pending v ≡ true → removed 2 ∷ inserted 1 0 ∷ [] ≡ newer ++ (said 2 v ∷ before) → ⊥
    go [] before v pending is = other_event (removed 2) 2 v pending refl cc
    go (x ∷ []) before v pending is = let same : inserted 1 0 ≡ said 2 v = cc in let e : 1 ≡ 2 = ap (λ (y : HistoryEntry). y.pass.0) same in absurd (omega (arith, e))
    go (x ∷ y ∷ []) before v pending is = absurd cc
    go (x ∷ y ∷ z ∷ newer) before v pending is = absurd cc

-- it stands directly after what the steps before its test left: no removal, which comes later
recorded_late_is : Ran (did 1 End 0 ∷ did 1 (Disarm (irp 0 0)) 0 ∷ did 2 (Take (irp 0 0)) 1 ∷ did 2 (Flag (irp 0 0)) 0 ∷ did 2 End 0 ∷ inserts_of 0 []) (found_none 1 ∷ said 1 (event.Mark (irp 0 0)) ∷ inserted 1 0 ∷ found_none 2 ∷ []) → ⊥
unfolding same_pass is_pending
recorded_late_is ran =
    let later = did 1 End 0 ∷ did 1 (Disarm (irp 0 0)) 0 ∷ did 2 (Take (irp 0 0)) 1 ∷ did 2 (Flag (irp 0 0)) 0 ∷ did 2 End 0 ∷ [] in
    let r = step_recorded ran later (did 1 (Arm (irp 0 0)) 0 ∷ []) (did 1 (Test (irp 0 0)) 0) refl refl in
    let said' = test_says r.call (end_of 0 r.before) r.of_call in
    go r.newer r.before said'.0 said'.1 (r.history_is ∙ ap (λ (es : List Event). r.newer ++ (entries_of (pass 1) es ++ r.before)) said'.2) r.ran
  where
    go : (newer before : List HistoryEntry) (v : Event) → is_pending v ≡ true → found_none 1 ∷ said 1 (event.Mark (irp 0 0)) ∷ inserted 1 0 ∷ found_none 2 ∷ [] ≡ newer ++ (said 1 v ∷ before) → Ran (did 1 (Arm (irp 0 0)) 0 ∷ []) before → ⊥
    go [] before v pending is earlier = other_event (found_none 1) 1 v pending refl cc
    go (x ∷ []) before v pending is earlier = other_event (said 1 (event.Mark (irp 0 0))) 1 v pending refl cc
    go (x ∷ y ∷ []) before v pending is earlier = let rest : found_none 2 ∷ [] ≡ before = cc in
        stands_nowhere (did 1 (Arm (irp 0 0)) 0 ∷ []) before earlier (by (pass 2)) refl [] [] (found_none 2) (sym rest) refl (λ m now h. by_own (pass 2) m h.own)
    go (x ∷ y ∷ z ∷ []) before v pending is earlier = other_event (found_none 2) 1 v pending refl cc
    go (x ∷ y ∷ z ∷ w ∷ []) before v pending is earlier = absurd cc
    go (x ∷ y ∷ z ∷ w ∷ t ∷ newer) before v pending is earlier = absurd cc

-- of what was found flagged no put-back is pending
none_pending : (refused : Option InsertStatus) → Pending ≡ reply_to_insert refused true → ⊥
none_pending (Some cause) is = absurd cc
none_pending None is = absurd cc

-- two records that agree have such an execution
ran_of : {history : List HistoryEntry} {run : List Made} → Agree history run → Ran run history
ran_of (trace, is, h) = record { trace = trace; is_trace = h.is_trace; steps_are = is; entries_are = h.entries_are }

-- none of the histories is one of its execution
pub none_is_a_history : NoneIsAHistory
unfolding same_pass same_irp same_id
none_is_a_history = record {
  overlooked = λ h. stand_turned (did 2 End 0 ∷ inserts_of 0 []) (inserted 1 0 ∷ found_none 2 ∷ []) (ran_of h) (by (pass 2)) (by (pass 1)) (did 2 End 0) (inserts_of 0 []) refl refl refl (found_none 2) (inserted 1 0) refl refl refl
      (λ m now r. by_own (pass 1) m r.own) (λ m now r. by_own (pass 2) m r.own);
  left_out = λ h. left_out_is (ran_of h);
  recorded_late = λ h. recorded_late_is (ran_of h);
  no_step = λ h. stands_nowhere [] (found_none 2 ∷ []) (ran_of h) (by (pass 2)) refl [] [] (found_none 2) refl refl (λ m now r. by_own (pass 2) m r.own);
  put_back_left_out = λ h. unrecorded_is (ran_of h);
  another_put_back = λ run h. (let e : pass 2 ∷ [] ≡ pass 1 ∷ [] = h.2.history_is.owners.0 (irp 0 0) refl in let same : pass 2 ≡ pass 1 = cc in let n : 2 ≡ 1 = ap (λ (p : PassId). p.0) same in absurd (omega arith));
  turned = λ h. turned_is (ran_of h);
  marked_before = λ h. marked_is _ refl (ran_of h);
  removed_first = λ h. (let e : Some (irp 0 0) ≡ None = h.1.0 in cc);
  inserted_twice = λ h. (let e : true ≡ false = h.0 in cc);
  never_removed = λ h. (let e : true ≡ false = h.0.1 in cc);
  other_file = λ l h. (let e : 1 ≡ 0 = ap (λ (f : FileId). f.0) h.0.1 in absurd (omega arith));
  flag_ignored = λ l h. none_pending _ h.0.2;
  put_back_of_another = λ h. (let e : false ≡ true = h.0 in cc);
  another = λ h. (let e : false ≡ true = h.0 in cc);
  back_twice = λ size words q back f. twice (subst BackOnce back f.agrees.back_once);
}
  where
    twice : BackOnce (completed_with 0 ∷ completed_with 1 ∷ []) → ⊥
    twice once = let e : 0 ≡ 1 = once 0 1 (completed_with 0) (completed_with 1) refl refl refl in absurd (omega (arith, e))
