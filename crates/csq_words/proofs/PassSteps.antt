-- The steps of a pass's own seat keep the rule.
use Rattle.std.proofs.Common.{◌≡◌, ◌≢◌, ℕ, ◌+◌, ◌*◌, ◌^◌, ◌<◌, ◌≤◌, ◌==◌, inl, Bool, true, false, cond, if◌then◌else◌, List, [], ◌∷◌, ◌++◌, Some, None, length, set, Option, eqb-true, eq-eqb, refl, sym, ap, ◌∙◌, subst, arith, length-set, get_or-set_same}
use prog.Atomic.{either}
use Rattle.csq_words.proofs.Imports.{by_value, false_from_ne_true, or_right, set-get_or, slice_index, some, none, get_elem?, Allows, step, keeps, inside_of, holds_in, removed_in, IrpId, PassId, NtStatus, Flag, Take, Done, Made, Inside, number, life_of, same_id, IrpLife, bit, armed, flagged, cancel, routine, found_by, has_lock, owes, holds, removed, last_life, present_life, present, IsPresent, Size, IsRun, same_pass-refl, life_bound, grows_by_flag, grows_by_take, grows_by_done, Pending, Cancelled, Refused, Event, Insert, RemoveNext, Remove, Reuse, PutBack, HistoryEntry, QueueState, after_event, Reusing, Looked, StatusRenewed, Completion, PassRecord, QueueRecord, View, pass_view, with_step, with_completion, with_life, saw, CANCELLED, end_of, cancel_at, routine_at, status_at, bit_word, life_in, bit_in, unset_word, status_word, status_life_in, status_in, renewed_status, stands_for, is_done, SaysStatus, HasWords, AreTrueOf, MayRenew, IsReuse, IsStored, in_flight, IsHistoryOf, IsPassOf, IsExtendedBy, Tick, Makes, steps_in, IsOut, IsRecord, RuleHoldsBy, RuleHolds, SeatView, life_found, after_flag, SeesFlag, Flags, taken_by, Takes, Completes, own-mine, holds_in-own, removed_in-own, SaysRoutine, IsRoutineWord, was_armed}
use Rattle.irp_core.specs.declared.inside.Inside.TheVariants.{Nothing, Cancelling}
use Rattle.csq_words.specs.declared.views.Reusing.TheVariants as reusing
use Rattle.csq_words.proofs.Facts.{off, due_more, given_take, bit_bound, bit_true, set_listed, listed_now, open_now, open_undone}
use Rattle.csq_words.proofs.Named.{by_id, irp_eq, same_id-not}
use Rattle.csq_words.proofs.Decoding.{life_in-put, bit_in-put, status_life_in-unset, status_life_in-put, status_in-unset, status_in-put}
use Rattle.csq_words.proofs.Keeping.{inside_is}
use Rattle.csq_words.proofs.SeatSteps.{OwnStep, own_step, longer_step, begun_more}
use Rattle.csq_words.proofs.Changes.{present_is, status_of, flag_words, take_words, miss_words, done_words, stored_else, stored_put, stored_first, status_routine, status_cancel}

-- every IRP of the words has those of the run
abbrev pub AllWords : Size → List ℕ → List Made → Reusing → Type 0
AllWords size words run reuse = (n : IrpId) → n.0 < size.irps → HasWords size.first words run reuse n

-- an IRP that isn't completed in its present life has no word renewed
module _ (size : Size) (run : List Made) (i : IrpLife) (now : IsPresent size.first run i) (undone : is_done run i ≡ false) where
  apart : (j : IrpLife) → MayRenew size run j → same_id j.irp i.irp ≡ false
  apart j may = by_id (same_id j.irp i.irp ≡ false) j.irp i.irp
      (λ e. off (sym undone ∙ (ap (is_done run) (sym (same j may e)) ∙ may.done)))
      (λ ne. same_id-not j.irp i.irp (λ e. ne (ap (λ (x : IrpId). x.0) e)))
    where
      same : (j : IrpLife) → MayRenew size run j → j.irp ≡ i.irp → j ≡ i
      same j may e = sym (present_is size.first run j may.is_present) ∙ (ap (present size.first run) e ∙ present_is size.first run i now)

  unrenewed : (reuse : Reusing) → IsReuse size run reuse → renewed_status reuse i.irp ≡ false
  unrenewed reusing.Nothing h = refl
  unrenewed (Looked j) h = refl
  unrenewed (StatusRenewed j) h = apart j h

  -- so its status word stands for it
  pub status_here : (reuse : Reusing) → IsReuse size run reuse → status_of size.first run reuse i.irp ≡ i
  status_here reuse h = ap (λ b. stands_for b (present size.first run i.irp)) (unrenewed reuse h) ∙ present_is size.first run i now

-- the word after an exchange of a clear flag for a set one
flag_put : (w g : ℕ) (b : Bool) → w ≡ bit_word g (bit b) → either (w == bit_word g 0) (bit_word g 1) w ≡ bit_word g 1
flag_put w g true is = go (w == bit_word g 0)
  where
    go : (t : Bool) → either t (bit_word g 1) w ≡ bit_word g 1
    go true = refl
    go false = is
flag_put w g false is = ap (λ t. either t (bit_word g 1) w) (eq-eqb w (bit_word g 0) is)

module _ (size : Size) (words : List ℕ) (trace : List Tick) (q : QueueRecord) (r : PassRecord) (i : IrpLife) (known : number i < size.irps) where
  abbrev run : List Made
  run = steps_in trace

  -- a flag that finds the life that it names
  flag_made : (w : ℕ) → length words ≡ 3 * size.irps → w ≡ slice_index words (cancel_at i.irp) → AllWords size words run q.reusing → IsRun size run → AreTrueOf q.first run q.history → IsReuse size run q.reusing
      → IsOut q r.pass → q.made ≤ size.passes → IsRecord q.first words run q.history r → inside_of r.steps ≡ Nothing → life_in w ≡ life_of i
      → OwnStep size words (set words (cancel_at i.irp) (bit_word (life_of i) 1)) run (record { pass = r.pass; kind = Flag i; found = bit_in w } ∷ run) trace (Makes record { pass = r.pass; kind = Flag i; found = bit_in w } ∷ trace) q r (saw (Makes record { pass = r.pass; kind = Flag i; found = bit_in w } ∷ trace) (with_step (Flag i) (bit_in w) r))
      × (w ≡ bit_word (life_of i) (bit (flagged run i)))
  flag_made w wide is ws is_run true' reuse out few rec outside e =
      let c = is ∙ (ws i.irp known).cancel_is in
      let now : IsPresent size.first run i = sym e ∙ (ap life_in c ∙ life_in-put (present_life size.first run i.irp) _ (bit_bound (flagged run (present size.first run i.irp)))) in
      let here = present_is size.first run i now in
      let c' : w ≡ bit_word (life_of i) (bit (flagged run i)) = c ∙ ap (λ (j : IrpLife). bit_word (life_of j) (cancel run j)) here in
      let found : bit_in w ≡ found_by run (Flag i) = ap bit_in c' ∙ bit_in-put (life_of i) _ (bit_bound (flagged run i)) in
      let m : Made = record { pass = r.pass; kind = Flag i; found = bit_in w } in
      let to = out.to in
      let same = inside_is run r words q rec in
      let is_run' : IsRun size (m ∷ run) = subst (λ n. IsRun size (record { pass = r.pass; kind = Flag i; found = n } ∷ run)) (sym found) (grows_by_flag size run is_run r.pass out.from (omega arith) i known (sym same ∙ outside) now) in (
        longer_step size words (set words (cancel_at i.irp) (bit_word (life_of i) 1)) run trace m q r (saw (Makes m ∷ trace) (with_step (Flag i) (bit_in w) r)) true' reuse record {
          by = refl;
          same_pass = refl;
          wide = length-set words (cancel_at i.irp) (bit_word (life_of i) 1);
          is_run = is_run';
          words_are = λ n l. flag_words size.first words run q.reusing r.pass i (bit_in w) n (ws n l) now (omega arith);
          listed_same = λ j. refl;
          armed_same = λ j. refl;
          given_same = λ j. refl;
          lives_same = λ n. refl;
          stored = λ o rec. stored_else words (cancel_at i.irp) (bit_word (life_of i) 1) o.completed (λ n. status_cancel n i.irp) rec.stored;
          unlocked = rw same_pass-refl refl;
          free = refl;
          sees_it = refl;
          mine = record {
            of_pass = record { seen_is = rec.of_pass.seen_is; mine_is = rec.of_pass.mine_is; steps_is = ap (λ u. m ∷ u) rec.of_pass.steps_is ∙ sym (own-mine r.pass m run refl); completed_is = rec.of_pass.completed_is };
            stored = stored_else words (cancel_at i.irp) (bit_word (life_of i) 1) r.completed (λ n. status_cancel n i.irp) rec.stored;
            due = due_more m r.steps r.completed (λ i. refl) rec.due;
            begun = begun_more q.first m run r.lives rec.begun;
          };
        },
        c',
      )

  -- a flag that finds another life
  flag_missed : (w : ℕ) → w ≡ slice_index words (cancel_at i.irp) → AllWords size words run q.reusing → IsRun size run → q.first ≡ size.first → AreTrueOf q.first run q.history → IsReuse size run q.reusing
      → IsRecord q.first words run q.history r → inside_of r.steps ≡ Nothing
      → OwnStep size words words run run trace trace q r (saw trace (with_life (life_found i w) r)) × (life_in w ≡ present_life size.first run i.irp)
  flag_missed w is ws is_run first true' reuse rec outside =
      let c = is ∙ (ws i.irp known).cancel_is in
      let life : life_in w ≡ present_life size.first run i.irp = ap life_in c ∙ life_in-put (present_life size.first run i.irp) _ (bit_bound (flagged run (present size.first run i.irp))) in
      let life' : life_in w ≡ present_life q.first run i.irp = life ∙ ap (λ f. present_life f run i.irp) (sym first) in (
        record {
          same_pass = refl;
          wide = refl;
          is_run = is_run;
          words_are = ws;
          listed_same = λ j. refl;
          armed_same = λ j. refl;
          given_same = λ j. refl;
          lives_same = λ n. refl;
          true_of = true';
          reuse_is = reuse;
          others = λ o ne h. h;
          elsewhere = λ p ne. (refl, refl);
          unlocked = ap has_lock (sym (inside_is run r words q rec) ∙ outside);
          longer = ([], refl);
          traced = λ joined alone t. t;
          mine_seen = ([], refl);
          mine = record { of_pass = record { seen_is = rec.of_pass.seen_is; mine_is = rec.of_pass.mine_is; steps_is = rec.of_pass.steps_is; completed_is = rec.of_pass.completed_is }; stored = rec.stored; due = rec.due; begun = ((omega (arith, life'), omega (arith, life')), rec.begun) };
        },
        life,
      )

-- a later history has no earlier present life
event_lives : (u : QueueState) (e : Event) (n : IrpId) → u.lives n ≤ (after_event u e).lives n
event_lives u (Insert m f place Pending) n = omega arith
event_lives u (Insert m f place Cancelled) n = omega arith
event_lives u (Insert m f place (Refused cause)) n = omega arith
event_lives u (PutBack i f place Pending) n = omega arith
event_lives u (PutBack i f place Cancelled) n = omega arith
event_lives u (PutBack i f place (Refused cause)) n = omega arith
event_lives u (RemoveNext k None) n = omega arith
event_lives u (RemoveNext k (Some j)) n = omega arith
event_lives u (Remove j false) n = omega arith
event_lives u (Remove j true) n = omega arith
event_lives u (Reuse m life) n = by_value (λ b. u.lives n ≤ cond b (u.lives n + 1) (u.lives n)) (same_id m n) (λ _. omega arith) (λ _. omega arith)
event_lives u e n = omega arith

lives_more : (first : ℕ) (newer older : List HistoryEntry) (n : IrpId) → (end_of first older).lives n ≤ (end_of first (newer ++ older)).lives n
lives_more first [] older n = omega arith
lives_more first (e ∷ newer) older n = let h = lives_more first newer older n in let g = event_lives (end_of first (newer ++ older)) e.event n in omega (arith, h, g)

-- the present lives in what a pass has seen are no later than those of the run
pub seen_lives : (size : Size) (run : List Made) (q : QueueRecord) (f : Inside) (r : PassRecord) → IsHistoryOf size run q f → IsPassOf run q.history r → (n : IrpId) → (end_of size.first r.seen).lives n ≤ present_life size.first run n
seen_lives size run q f r h was n =
    let grown = lives_more size.first was.seen_is.0 r.seen n in
    let now : (end_of size.first (was.seen_is.0 ++ r.seen)).lives n ≡ present_life size.first run n = ap (λ l. (end_of size.first l).lives n) (sym was.seen_is.1) ∙ (ap (λ f. (end_of f q.history).lives n) (sym h.first_is) ∙ h.lives_are n) in
    omega (arith, grown, now)

-- the next view of the seat, and that it keeps the rule
module _ (size : Size) (words : List ℕ) (views : List View) (trace : List Tick) (queue_at : ℕ) (queue : QueueRecord) (joined : Option PassRecord) (seat : PassId → ℕ) (id : ℕ) (r : PassRecord)
    (k : RuleHoldsBy size words views trace queue_at queue joined seat) (here : get_elem? views id ≡ some (pass_view r)) (i : IrpLife) (known : number i < size.irps) where
  abbrev now_run : List Made
  now_run = steps_in trace

  -- what the pass had seen
  had_seen : IsExtendedBy r.trace trace
  had_seen = (k.each_seen id (pass_view r) here).pass r refl

  owner : (seat r.pass ≡ id) × IsOut queue r.pass × IsRecord queue.first words now_run queue.history r
  owner = (k.each_view id (pass_view r) here).pass_here r refl

  -- what is kept after a change of this seat's view and of a word
  abbrev pub KeptWith : List ℕ → PassRecord → Type 0
  KeptWith words' r' = (trace' : List Tick) × (queue_at' : ℕ) × (queue' : QueueRecord) × (joined' : Option PassRecord) × (seat' : PassId → ℕ) × RuleHoldsBy size words' (set views id (pass_view r')) trace' queue_at' queue' joined' seat'

  module _ (outside : inside_of r.steps ≡ Nothing) where
    abbrev found : ℕ
    found = slice_index words (cancel_at i.irp)

    abbrev flag_next : ℕ
    flag_next = either (found == bit_word (life_of i) 0) (bit_word (life_of i) 1) found

    abbrev Flagged : PassRecord → Type 0
    Flagged r' = KeptWith (set words (cancel_at i.irp) flag_next) r' × SeesFlag size i found r r'

    -- the execution after it
    abbrev pub flag_trace : List Tick
    flag_trace = if life_in found == life_of i then Makes record { pass = r.pass; kind = Flag i; found = bit_in found } ∷ trace else trace

    flag_bound : size.first ≤ last_life → life_in found ≤ last_life
    flag_bound few =
        let c = (k.agrees.words_are i.irp known).cancel_is in
        let life : life_in found ≡ present_life size.first now_run i.irp = ap life_in c ∙ life_in-put (present_life size.first now_run i.irp) _ (bit_bound (flagged now_run (present size.first now_run i.irp))) in
        let bound = life_bound size now_run k.agrees.history_is.is_run few i.irp in
        omega (arith, life, bound)

    flag_kept : (b : Bool) → (life_in found == life_of i) ≡ b → Flagged (saw flag_trace (after_flag i found r))
    flag_kept true e =
        let h = k.agrees.history_is in
        let m : Made = record { pass = r.pass; kind = Flag i; found = bit_in found } in
        let made = flag_made size words trace queue r i known found k.agrees.wide refl k.agrees.words_are h.is_run h.true_of k.agrees.reuse_is owner.1 k.agrees.few owner.2 outside (eqb-true (life_in found) (life_of i) e) in
        let put = flag_put found (life_of i) (flagged now_run i) made.1 in
        let r' = saw (Makes m ∷ trace) (with_step (Flag i) (bit_in found) r) in
        let kept = own_step size words (set words (cancel_at i.irp) (bit_word (life_of i) 1)) views trace (Makes m ∷ trace) queue_at queue joined seat id r r' k here made.0 in
        rw e (
          (Makes m ∷ trace, queue_at, queue, joined, seat, subst (λ n. RuleHoldsBy size (set words (cancel_at i.irp) n) (set views id (pass_view r')) (Makes m ∷ trace) queue_at queue joined seat) (sym put) kept),
          record { before = trace; follows = had_seen; trace_is = refl; is_run = made.0.is_run; steps_are = made.0.mine.of_pass.steps_is },
        )
    flag_kept false e =
        let h = k.agrees.history_is in
        let was = owner.2.of_pass in
        let other : life_of i ≢ life_in found = λ same. off (sym e ∙ eq-eqb (life_in found) (life_of i) (sym same)) in
        let missed = flag_missed size words trace queue r i known found refl k.agrees.words_are h.is_run h.first_is h.true_of k.agrees.reuse_is owner.2 outside in
        let none' : (found == bit_word (life_of i) 0) ≡ false = false_from_ne_true (found == bit_word (life_of i) 0) (λ t. other (sym (ap life_in (eqb-true found (bit_word (life_of i) 0) t) ∙ life_in-put (life_of i) 0 (omega arith)))) in
        let same : set words (cancel_at i.irp) flag_next ≡ words = ap (λ b. set words (cancel_at i.irp) (either b (bit_word (life_of i) 1) found)) none' ∙ set-get_or words (cancel_at i.irp) 0 in
        let r' = saw trace (with_life (life_found i found) r) in
        let kept = own_step size words words views trace trace queue_at queue joined seat id r r' k here missed.0 in
        let seen = seen_lives size now_run queue (in_flight joined) r h was i.irp in
        let life = missed.1 in
        rw e (
          (trace, queue_at, queue, joined, seat, subst (λ ws. RuleHoldsBy size ws (set views id (pass_view r')) trace queue_at queue joined seat) (sym same) kept),
          record { sees = record { follows = had_seen; is_run = h.is_run; steps_are = was.steps_is }; other = other; life_is = life; seen = omega (arith, seen, life) },
        )

-- a flag sets the Cancel flag in the life that it names, or finds another life and changes nothing
flags : (size : Size) (slots id : ℕ) (r : PassRecord) (held : List (ℕ × Unit {0})) (i : IrpLife) → number i < size.irps → size.first ≤ last_life → inside_of r.steps ≡ Nothing
    → Allows (RuleHolds size) slots id (pass_view r, held) (cancel_at i.irp) (λ n. either (n == bit_word (life_of i) 0) (bit_word (life_of i) 1) n)
    (Flags size i (step slots (cancel_at i.irp) (bit_word (life_of i) 0) (bit_word (life_of i) 1) none) (pass_view r, held))
flags size slots id r held i known few outside s (trace, queue_at, queue, joined, seat, k) _ here _ =
    let w = slice_index s.words (cancel_at i.irp) in
    let kept = flag_kept size s.words s.views trace queue_at queue joined seat id r k here i known outside (life_in w == life_of i) refl in
    let after = flag_trace size s.words s.views trace queue_at queue joined seat id r k here i known outside in
    (pass_view (saw after (after_flag i w r)), keeps, tt, kept.0, (refl, flag_bound size s.words s.views trace queue_at queue joined seat id r k here i known outside few, kept.1))

module _ (size : Size) (words : List ℕ) (run : List Made) (reuse : Reusing) (i : IrpLife) (known : number i < size.irps) (ws : AllWords size words run reuse) (is_run : IsRun size run) (may : IsReuse size run reuse) where
  -- an IRP whose routine is set has it in its word
  set_word : armed run i ≡ true → slice_index words (routine_at i.irp) ≡ bit_word (life_of i) 1
  set_word a =
      let there = set_listed size run is_run i a in
      subst (λ (z : Bool × ℕ). SaysRoutine (slice_index words (routine_at i.irp)) (life_of i) z.0 z.1) (λ k. (there.0 k, ap bit a k))
      (subst (λ (j : IrpLife). IsRoutineWord (slice_index words (routine_at i.irp)) run j) (present_is size.first run i (listed_now size run is_run i there.1)) (ws i.irp known).routine_is)

  -- and no other word says so
  word_set : slice_index words (routine_at i.irp) ≡ bit_word (life_of i) 1 → (armed run i ≡ true) × (present size.first run i.irp ≡ i)
  word_set e = go (was_armed run j) (ws i.irp known).routine_is
    where
      j : IrpLife
      j = present size.first run i.irp

      go : (a : Bool) → SaysRoutine (slice_index words (routine_at i.irp)) (life_of j) a (routine run j) → (armed run i ≡ true) × (j ≡ i)
      go false h = let one = sym h.0 ∙ (ap bit_in e ∙ bit_in-put (life_of i) 1 (omega arith)) in absurd (omega (arith, one))
      go true h =
          let is = sym h ∙ e in
          let bound = bit_bound (armed run j) in
          let life : life_of j ≡ life_of i = sym (life_in-put (life_of j) (routine run j) bound) ∙ (ap life_in is ∙ life_in-put (life_of i) 1 (omega arith)) in
          let one : routine run j ≡ 1 = sym (bit_in-put (life_of j) (routine run j) bound) ∙ (ap bit_in is ∙ bit_in-put (life_of i) 1 (omega arith)) in
          let same : j ≡ i = irp_eq j i refl life in
          (bit_true (armed run i) 1 (sym (sym (ap (routine run) same) ∙ one)) (omega arith), same)

  -- so a take finds 1 exactly where it exchanges the word
  take_finds : taken_by i (slice_index words (routine_at i.irp)) ≡ found_by run (Take i)
  take_finds = by_value (λ b. bit b ≡ routine run i) (slice_index words (routine_at i.irp) == bit_word (life_of i) 1)
      (λ e. ap bit (sym (word_set (eqb-true _ _ e)).0))
      (λ e. ap bit (sym (false_from_ne_true (armed run i) (λ a. off (sym e ∙ eq-eqb _ _ (set_word a))))))

module _ (size : Size) (words : List ℕ) (run : List Made) (trace : List Tick) (q : QueueRecord) (r : PassRecord) (i : IrpLife) (known : number i < size.irps) (wide : length words ≡ 3 * size.irps) (ws : AllWords size words run q.reusing) (is_run : IsRun size run)
    (true' : AreTrueOf q.first run q.history) (reuse : IsReuse size run q.reusing) (out : IsOut q r.pass) (few : q.made ≤ size.passes) (rec : IsRecord q.first words run q.history r) (after_flag' : inside_of r.steps ≡ Cancelling i) where
  abbrev routine_word : ℕ
  routine_word = slice_index words (routine_at i.irp)

  abbrev took : ℕ
  took = taken_by i routine_word

  abbrev take_next : ℕ
  take_next = either (routine_word == bit_word (life_of i) 1) (bit_word (life_of i) 0) routine_word

  abbrev take_step : Made
  take_step = record { pass = r.pass; kind = Take i; found = took }

  taken_run : IsRun size (take_step ∷ run)
  taken_run =
      let to = out.to in
      subst (λ n. IsRun size (record { pass = r.pass; kind = Take i; found = n } ∷ run)) (sym (take_finds size words run q.reusing i known ws is_run reuse))
      (grows_by_take size run is_run r.pass out.from (omega arith) i known (sym (inside_is run r words q rec) ∙ after_flag'))

  taken_words : (b : Bool) → (routine_word == bit_word (life_of i) 1) ≡ b → AllWords size (set words (routine_at i.irp) (either b (bit_word (life_of i) 0) routine_word)) (take_step ∷ run) q.reusing
  taken_words true e n l = take_words size.first words run q.reusing r.pass i took n (ws n l) 0 (omega arith) (word_set size words run q.reusing i known ws is_run reuse (eqb-true _ _ e)).1 refl
  taken_words false e n l =
      let none' : armed run i ≡ false = false_from_ne_true (armed run i) (λ a. off (sym e ∙ eq-eqb _ _ (set_word size words run q.reusing i known ws is_run reuse a))) in
      subst (λ us. HasWords size.first us (take_step ∷ run) q.reusing n) (sym (set-get_or words (routine_at i.irp) 0)) (miss_words size.first words run q.reusing r.pass i took n (ws n l) none')

  -- a take owes this, whatever it finds
  take_made : OwnStep size words (set words (routine_at i.irp) take_next) run (take_step ∷ run) trace (Makes take_step ∷ trace) q r (saw (Makes take_step ∷ trace) (with_step (Take i) took r))
  take_made = longer_step size words (set words (routine_at i.irp) take_next) run trace take_step q r (saw (Makes take_step ∷ trace) (with_step (Take i) took r)) true' reuse record {
    by = refl;
    same_pass = refl;
    wide = length-set words (routine_at i.irp) take_next;
    is_run = taken_run;
    words_are = taken_words (routine_word == bit_word (life_of i) 1) refl;
    listed_same = λ j. refl;
    armed_same = λ j. refl;
    given_same = given_take size run is_run r.pass i took (take_finds size words run q.reusing i known ws is_run reuse);
    lives_same = λ n. refl;
    stored = λ o rec. stored_else words (routine_at i.irp) take_next o.completed (λ n. status_routine n i.irp) rec.stored;
    unlocked = rw same_pass-refl refl;
    free = refl;
    sees_it = refl;
    mine = record {
      of_pass = record { seen_is = rec.of_pass.seen_is; mine_is = rec.of_pass.mine_is; steps_is = ap (λ u. take_step ∷ u) rec.of_pass.steps_is ∙ sym (own-mine r.pass take_step run refl); completed_is = rec.of_pass.completed_is };
      stored = stored_else words (routine_at i.irp) take_next r.completed (λ n. status_routine n i.irp) rec.stored;
      due = due_more take_step r.steps r.completed (λ i. refl) rec.due;
      begun = begun_more q.first take_step run r.lives rec.begun;
    };
  }

-- a take exchanges the routine in the life that it names, or finds none
takes : (size : Size) (slots id : ℕ) (r : PassRecord) (held : List (ℕ × Unit {0})) (i : IrpLife) → number i < size.irps → inside_of r.steps ≡ Cancelling i
    → Allows (RuleHolds size) slots id (pass_view r, held) (routine_at i.irp) (λ n. either (n == bit_word (life_of i) 1) (bit_word (life_of i) 0) n)
    (Takes size i (step slots (routine_at i.irp) (bit_word (life_of i) 1) (bit_word (life_of i) 0) none) (pass_view r, held))
takes size slots id r held i known after s (trace, queue_at, queue, joined, seat, k) _ here _ =
    let run = steps_in trace in
    let seen = (k.each_seen id (pass_view r) here).pass r refl in
    let w = slice_index s.words (routine_at i.irp) in
    let h = k.agrees.history_is in
    let own = (k.each_view id (pass_view r) here).pass_here r refl in
    let m : Made = record { pass = r.pass; kind = Take i; found = taken_by i w } in
    let r' = saw (Makes m ∷ trace) (with_step (Take i) (taken_by i w) r) in
    let next = either (w == bit_word (life_of i) 1) (bit_word (life_of i) 0) w in
    let made = take_made size s.words run trace queue r i known k.agrees.wide k.agrees.words_are h.is_run h.true_of k.agrees.reuse_is own.1 k.agrees.few own.2 after in (
      pass_view r',
      keeps,
      tt,
      (Makes m ∷ trace, queue_at, queue, joined, seat, own_step size s.words (set s.words (routine_at i.irp) next) s.views trace (Makes m ∷ trace) queue_at queue joined seat id r r' k here made),
      (refl, record { before = trace; follows = seen; trace_is = refl; is_run = made.is_run; steps_are = made.mine.of_pass.steps_is }),
    )

-- the status word of what isn't completed
pub unset_word_is : (w life : ℕ) (d b : Bool) → d ≡ false → SaysStatus w life d b → w ≡ unset_word life
unset_word_is w life false b e h = h
unset_word_is w life true b e h = off (sym e)

-- a pass completes an IRP that it holds
completes : (size : Size) (slots id : ℕ) (r : PassRecord) (held : List (ℕ × Unit {0})) (i : IrpLife) (status : NtStatus) (v : ℕ) → number i < size.irps → size.first ≤ last_life → status.0 < 2 ^ 32 → (life_of i ≤ last_life → v ≡ status_word (life_of i) status)
    → inside_of r.steps ≡ Nothing → holds_in r.steps i ≡ true → (removed_in r.steps i ≡ false → status ≡ CANCELLED)
    → Allows (RuleHolds size) slots id (pass_view r, held) (status_at i.irp) (λ _. v) (Completes size i status (step slots (status_at i.irp) v 0 none) (pass_view r, held))
completes size slots id r held i status v known few_lives small put outside held' due s (trace, queue_at, queue, joined, seat, k) _ here _ =
    let run = steps_in trace in
    let seen = (k.each_seen id (pass_view r) here).pass r refl in
    let h = k.agrees.history_is in
    let is_run = h.is_run in
    let found = slice_index s.words (status_at i.irp) in
    let m : Made = record { pass = r.pass; kind = Done i; found = 0 } in
    let r' = saw (Makes m ∷ trace) (with_completion i status (with_step (Done i) 0 r)) in
    let mine = (k.each_view id (pass_view r) here).pass_here r refl in
    let was = mine.2.of_pass in
    let holds' : holds run r.pass i ≡ true = sym (ap (λ t. holds_in t i) was.steps_is ∙ holds_in-own r.pass i run) ∙ held' in
    let open' = or_right (owes run r.pass i) (holds run r.pass i) holds' in
    let undone = open_undone size run is_run i r.pass open' in
    let now = open_now size run is_run i r.pass open' in
    let at = status_here size run i now undone queue.reusing k.agrees.reuse_is in
    let word : SaysStatus found (life_of i) (is_done run i) (removed run i) = subst (λ (j : IrpLife). SaysStatus found (life_of j) (is_done run j) (removed run j)) at (k.agrees.words_are i.irp known).status_is in
    let unset : found ≡ unset_word (life_of i) = unset_word_is found (life_of i) (is_done run i) (removed run i) undone word in
    let bound = life_bound size run is_run few_lives i.irp in
    let v_is : v ≡ status_word (life_of i) status = put (omega (arith, bound, now)) in
    let to = mine.1.to in
    let few = k.agrees.few in
    let wide = k.agrees.wide in
    let room : status_at i.irp < length s.words = omega arith in
    let longer = grows_by_done size run is_run r.pass mine.1.from (omega (arith, to, few)) i known (sym (inside_is run r s.words queue mine.2) ∙ outside) holds' in
    let due' : removed run i ≡ false → status ≡ CANCELLED = λ e. due (false_from_ne_true (removed_in r.steps i) (λ x. off (sym e ∙ removed_in-own size r.pass i run is_run (subst (λ t. removed_in t i ≡ true) was.steps_is x)))) in
    let steps = ap (λ u. m ∷ u) was.steps_is ∙ sym (own-mine r.pass m run refl) in
    let first' : (c : Completion) → IsStored found c → IsStored v c = λ c x. stored_first found v c (ap status_in unset ∙ status_in-unset (life_of i)) (ap status_life_in unset ∙ (status_life_in-unset (life_of i) ∙ sym (ap status_life_in v_is ∙ status_life_in-put (life_of i) status small))) x in (
      pass_view r',
      keeps,
      tt,
      (
        Makes m ∷ trace,
        queue_at,
        queue,
        joined,
        seat,
        own_step size s.words (set s.words (status_at i.irp) v) s.views trace (Makes m ∷ trace) queue_at queue joined seat id r r' k here
            (longer_step size s.words (set s.words (status_at i.irp) v) run trace m queue r r' h.true_of k.agrees.reuse_is record {
              by = refl;
              same_pass = refl;
              wide = length-set s.words (status_at i.irp) v;
              is_run = longer;
              words_are = λ n l. subst (λ x. HasWords size.first (set s.words (status_at i.irp) x) (m ∷ run) queue.reusing n) (sym v_is)
                  (done_words size.first s.words run queue.reusing r.pass i 0 status n (k.agrees.words_are n l) small due' room at);
              listed_same = λ j. refl;
              armed_same = λ j. refl;
              given_same = λ j. refl;
              lives_same = λ n. refl;
              stored = λ o rec. stored_put s.words i.irp v o.completed room first' rec.stored;
              unlocked = rw same_pass-refl refl;
              free = refl;
              sees_it = refl;
              mine = record {
                of_pass = record { seen_is = was.seen_is; mine_is = was.mine_is; steps_is = steps; completed_is = ap (λ xs. i ∷ xs) was.completed_is };
                stored = (
                  inl (
                    ap status_life_in (get_or-set_same s.words (status_at i.irp) v 0 room ∙ v_is) ∙ status_life_in-put (life_of i) status small,
                    ap status_in (get_or-set_same s.words (status_at i.irp) v 0 room ∙ v_is) ∙ status_in-put (life_of i) status small,
                  ),
                  stored_put s.words i.irp v r.completed room first' mine.2.stored,
                );
                due = (due, due_more m r.steps r.completed (λ i. refl) mine.2.due);
                begun = begun_more queue.first m run r.lives mine.2.begun;
              };
            }),
      ),
      (unset, refl, record { last = record { before = trace; follows = seen; trace_is = refl; is_run = longer; steps_are = steps }; undone = undone }),
    )

-- the same at a view that is known, and with words that are known by their values
module _ (size : Size) (slots id : ℕ) (m : SeatView) (r : PassRecord) (is : m.0 ≡ pass_view r) (i j : IrpLife) (named : j ≡ i) (known : number i < size.irps) where
  pub flags_as : (other : Size) (place old new : ℕ) → other ≡ size → place ≡ cancel_at i.irp → old ≡ bit_word (life_of i) 0 → new ≡ bit_word (life_of i) 1 → size.first ≤ last_life → inside_of r.steps ≡ Nothing
      → Allows (RuleHolds size) slots id m place (λ n. either (n == old) new n) (Flags other j (step slots place old new none) m)
  flags_as other place old new same lies clear put few outside =
      subst (λ (z : View × IrpLife × Size × ℕ × ℕ × ℕ). Allows (RuleHolds size) slots id (z.0, m.1) z.5 (λ n. either (n == z.3) z.4 n) (Flags z.2 z.1 (step slots z.5 z.3 z.4 none) (z.0, m.1)))
      (λ k. (sym is k, sym named k, sym same k, sym clear k, sym put k, sym lies k)) (flags size slots id r m.1 i known few outside)

  pub takes_as : (other : Size) (place old new : ℕ) → other ≡ size → place ≡ routine_at i.irp → old ≡ bit_word (life_of i) 1 → new ≡ bit_word (life_of i) 0 → inside_of r.steps ≡ Cancelling i
      → Allows (RuleHolds size) slots id m place (λ n. either (n == old) new n) (Takes other j (step slots place old new none) m)
  takes_as other place old new same lies set' put after =
      subst (λ (z : View × IrpLife × Size × ℕ × ℕ × ℕ). Allows (RuleHolds size) slots id (z.0, m.1) z.5 (λ n. either (n == z.3) z.4 n) (Takes z.2 z.1 (step slots z.5 z.3 z.4 none) (z.0, m.1)))
      (λ k. (sym is k, sym named k, sym same k, sym set' k, sym put k, sym lies k)) (takes size slots id r m.1 i known after)

  pub completes_as : (sized : Size) (status other : NtStatus) (place v : ℕ) → sized ≡ size → other ≡ status → place ≡ status_at i.irp → size.first ≤ last_life → status.0 < 2 ^ 32 → (life_of i ≤ last_life → v ≡ status_word (life_of i) status)
      → inside_of r.steps ≡ Nothing → holds_in r.steps i ≡ true → (removed_in r.steps i ≡ false → status ≡ CANCELLED)
      → Allows (RuleHolds size) slots id m place (λ _. v) (Completes sized j other (step slots place v 0 none) m)
  completes_as sized status other place v one same lies few small put outside held due =
      subst (λ (z : View × IrpLife × Size × NtStatus × ℕ). Allows (RuleHolds size) slots id (z.0, m.1) z.4 (λ _. v) (Completes z.2 z.1 z.3 (step slots z.4 v 0 none) (z.0, m.1)))
      (λ k. (sym is k, sym named k, sym one k, sym same k, sym lies k)) (completes size slots id r m.1 i status v known few small put outside held due)
