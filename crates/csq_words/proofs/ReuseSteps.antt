-- The three steps of a reuse keep the rule.
use Rattle.csq_words.proofs.Imports.{by_value, IsExtendedBy, and_parts, ltb-true, set-get_or, slice_index, is_some, IsSome, none, Allows, step, keeps, inside_of, IrpId, PassId, NtStatus, Renew, Made, life_of, same_id, same_irp, is, IrpLife, was_armed, bit, routine, flagged, listed, removed, last_life, renewals, present_life, present, Size, IsRun, same_irp-refl, same_irp-eq, grows_by_renew, Reusing, Nothing, Looked, StatusRenewed, Completion, PassRecord, QueueRecord, View, cancel_at, routine_at, status_at, bit_word, life_in, unset_word, status_life_in, status_in, present_in, has_entry, has_irp, begin_next, view_of, queue_of, with_calls, with_step, with_reusing, with_trace, Tick, steps_in, next_life, is_done, inserts, lists, again, in_flight, SaysStatus, HasWords, MayRenew, IsReuse, IsHistoryOf, AreStored, RuleHoldsBy, RuleHolds, after_look, after_renewal, SeatView, status_recorded, SaysStatusOf, Looks, RenewsStatus, RenewsCancel, own_made}
use Rattle.std.proofs.Common.{◌≡◌, ℕ, ◌+◌, ◌<◌, nat_lt, cond, Bool, true, false, not, ◌&&◌, List, [], ◌∷◌, length, set, Option, Some, None, ⊎_elim, refl, sym, ap, ◌∙◌, subst, arith, length-set}
use Rattle.irp_core.specs.declared.inside.Inside.TheVariants as inner
use Rattle.csq_words.specs.declared.views.Event.TheVariants as event
use Rattle.csq_words.specs.declared.calls.Call.TheVariants as call
use Rattle.csq_words.proofs.Facts.{off, due_more, bit_bound, IsNew, later_new, dones_some, done_over}
use Rattle.csq_words.proofs.Named.{irp_eq}
use Rattle.csq_words.proofs.Decoding.{life_in-put, status_life_in-unset, status_in-unset}
use Rattle.csq_words.proofs.Truths.{truths_stay}
use Rattle.csq_words.proofs.Keeping.{none_is, same_history, at_queue}
use Rattle.csq_words.proofs.SeatSteps.{locked_step}
use Rattle.csq_words.proofs.Changes.{present_is, renewed_status_words, renewed_words, stored_else, stored_put, stored_later, status_routine, status_cancel}
use Rattle.csq_words.proofs.PassSteps.{AllWords}
use Rattle.csq_words.proofs.CallSteps.{sees, IsMade, KeptAfter, agreed_kept, made_trace, made_record, made_kept}
use Rattle.csq_words.proofs.Traced.{step_traced}

-- a step that ends no life: the words, the progress of a reuse and what was seen of the execution change, and nothing else
pub renewal_kept : (size : Size) (words words' : List ℕ) (views : List View) (trace seen : List Tick) (id : ℕ) (q : QueueRecord) (r : PassRecord) (seat : PassId → ℕ) (reuse : Reusing) → IsExtendedBy seen trace
    → RuleHoldsBy size words views trace id q (Some r) seat → length words' ≡ length words → AllWords size words' (steps_in trace) reuse → IsReuse size (steps_in trace) reuse → ((cs : List Completion) → AreStored words cs → AreStored words' cs)
    → KeptAfter size words' views trace id seat (with_reusing reuse (with_trace seen q)) r
renewal_kept size words words' views trace seen id q r seat reuse follows k wide ws may stored =
    let q' = with_reusing reuse (with_trace seen q) in
    let run = steps_in trace in
    let had = k.each_seen id (view_of q (Some r)) k.queue_is in
    let h = k.agrees.history_is in
    let owner = (k.each_view id (view_of q (Some r)) k.queue_is).pass_here r refl in
    let was = owner.2.of_pass in
    let history_is : IsHistoryOf size run q' (in_flight (Some r)) = same_history h in agreed_kept size words' (set views id (view_of q' (Some r))) trace id q' r seat
    (locked_step size words words' views trace trace id q q' seat r r k record {
      same_pass = refl;
      same_made = refl;
      same_back = refl;
      same_shown = refl;
      wide = wide;
      words_are = ws;
      history_is = history_is;
      reuse_is = may;
      others = λ o ne rec. record { of_pass = rec.of_pass; stored = stored o.completed rec.stored; due = rec.due; begun = rec.begun };
      elsewhere = λ p ne. (refl, refl, refl);
      traced = k.traced;
      longer = ([], refl);
      seen = follows;
      mine_seen = had.pass r refl;
      grows = λ s g. g;
      mine = record { of_pass = was; stored = stored r.completed owner.2.stored; due = owner.2.due; begun = owner.2.begun };
    })

-- no step has named the next life of what may be renewed
next_new : (size : Size) (run : List Made) → IsRun size run → (i : IrpLife) → MayRenew size run i → IsNew run (next_life i)
next_new size run is i may = let now = may.is_present in later_new size run is (next_life i) (omega (arith, now))

-- a set status word
set_is : (w life : ℕ) (d b : Bool) → d ≡ true → SaysStatus w life d b → (status_life_in w ≡ life) × IsSome (status_in w)
set_is w life true b e h = (h.0, subst IsSome (sym h.1.1) refl)
set_is w life false b e h = off e

module _ (size : Size) (words : List ℕ) (views : List View) (trace : List Tick) (id : ℕ) (q : QueueRecord) (r : PassRecord) (seat : PassId → ℕ) (k : RuleHoldsBy size words views trace id q (Some r) seat) (i : IrpLife) where
  abbrev run : List Made
  run = steps_in trace

  -- what the queue's record had seen
  had_seen : IsExtendedBy q.trace trace
  had_seen = (k.each_seen id (view_of q (Some r)) k.queue_is).queue q refl

  abbrev status_found : ℕ
  status_found = slice_index words (status_at i.irp)

  -- the status is renewed
  status_kept : q.reusing ≡ Looked i → (v : ℕ) → (life_of i < last_life → v ≡ unset_word (life_of i + 1))
      → KeptAfter size (set words (status_at i.irp) v) views trace id seat (with_reusing (StatusRenewed i) q) r × (status_life_in status_found ≡ life_of i) × IsSome (status_in status_found)
  status_kept at v put =
      let is_run = k.agrees.history_is.is_run in
      let may : MayRenew size run i = subst (IsReuse size run) at k.agrees.reuse_is in
      let v_is = put may.few in
      let known = may.known in
      let wide = k.agrees.wide in
      let room : status_at i.irp < length words = omega arith in
      let ws : AllWords size words run (Looked i) = subst (AllWords size words run) at k.agrees.words_are in
      let word = set_is status_found (life_of (present size.first run i.irp)) (is_done run (present size.first run i.irp)) (removed run (present size.first run i.irp)) (ap (is_done run) (present_is size.first run i may.is_present) ∙ may.done) (ws i.irp known).status_is in
      let life : status_life_in status_found ≡ life_of i = word.0 ∙ sym may.is_present in
      let later : status_life_in status_found < status_life_in v = (let u : status_life_in v ≡ life_of i + 1 = ap status_life_in v_is ∙ status_life_in-unset (life_of i + 1) in omega (arith, life, u)) in (
        renewal_kept size words (set words (status_at i.irp) v) views trace q.trace id q r seat (StatusRenewed i) had_seen k (length-set words (status_at i.irp) v)
            (λ n l. subst (λ x. HasWords size.first (set words (status_at i.irp) x) run (StatusRenewed i) n) (sym v_is) (renewed_status_words size.first words run i may.is_present (next_new size run is_run i may) n room (ws n l)))
            may (λ cs h. stored_put words i.irp v cs room (λ c x. stored_later status_found v c later x) h),
        life,
        word.1,
      )

  abbrev cancel_found : ℕ
  cancel_found = slice_index words (cancel_at i.irp)

  -- the history's present lives after a reuse are those of the run after the Renew
  lives_next : (m : IrpId) → (queue_of q).lives m ≡ present_life size.first run m → begin_next i.irp (queue_of q).lives m ≡ present_life size.first (record { pass = r.pass; kind = Renew i; found = 0 } ∷ run) m
  lives_next m e = by_value (λ b. cond b ((queue_of q).lives m + 1) ((queue_of q).lives m) ≡ size.first + length (cond b (x ∷ renewals run m) (renewals run m))) (same_id i.irp m)
      (λ _. omega (arith, e))
      (λ _. e)
    where
      x : Made
      x = record { pass = r.pass; kind = Renew i; found = 0 }

  -- the Cancel flag is renewed, and the next life begins
  cancel_made : q.reusing ≡ StatusRenewed i → inside_of r.steps ≡ inner.Nothing
      → IsMade size words (set words (cancel_at i.irp) (bit_word (life_of i + 1) 0)) run q r (Renew i) 0 (event.Reuse i.irp (next_life i).life ∷ []) Nothing × (life_in cancel_found ≡ life_of i)
  cancel_made at outside =
      let x = sees size words views trace id q r seat k in
      let is_run = k.agrees.history_is.is_run in
      let may : MayRenew size run i = subst (IsReuse size run) at k.agrees.reuse_is in
      let known = may.known in
      let wide = k.agrees.wide in
      let room : cancel_at i.irp < length words = omega arith in
      let ws : AllWords size words run (StatusRenewed i) = subst (AllWords size words run) at k.agrees.words_are in
      let grown = grows_by_renew size run is_run r.pass x.from x.to i known (sym x.same ∙ outside) x.free may.is_present (dones_some run i may.done) may.few in
      let over = done_over size run is_run i may.done in
      let here : (j : IrpLife) → j ≡ i → (has_irp (queue_of q).used j ≡ true) × (has_entry (queue_of q).entries j ≡ false) = λ j e. (
        x.history_is.used_is j ∙ (ap (λ s. not (inserts s j) && was_armed run j) outside ∙ (ap (was_armed run) e ∙ over.0)),
        x.history_is.listed_is j ∙ (ap (λ s. not (lists s j) && listed run j) outside ∙ (ap (listed run) e ∙ over.2)),
      ) in
      let now : present_in (queue_of q) i.irp ≡ i = (let g : (queue_of q).lives i.irp ≡ life_of i = k.agrees.history_is.lives_are i.irp ∙ sym may.is_present in irp_eq (present_in (queue_of q) i.irp) i refl g) in
      let both = here (present_in (queue_of q) i.irp) now in (
        record {
          wide = length-set words (cancel_at i.irp) (bit_word (life_of i + 1) 0);
          is_run = grown;
          words_are = λ n l. renewed_words size.first words run i may.is_present (next_new size run is_run i may) n r.pass 0 (ap bit over.1) room (ws n l);
          reuse_is = tt;
          inert = λ is. refl;
          stored = λ cs h. stored_else words (cancel_at i.irp) (bit_word (life_of i + 1) 0) cs (λ n. status_cancel n i.irp) h;
          listed_is = λ j. x.history_is.listed_is j ∙ ap (λ s. not (lists s j) && listed run j) outside;
          used_is = λ j. x.history_is.used_is j ∙ ap (λ s. not (inserts s j) && was_armed run j) outside;
          lives_are = λ m. lives_next m (x.history_is.lives_are m);
          true_of = (record { done = ap (is_done run) now ∙ may.done; renew = own_made r.pass _ run refl (is (Renew (present_in (queue_of q) i.irp))) (ap (same_irp i) now ∙ same_irp-refl i) }, truths_stay size (record { pass = r.pass; kind = Renew i; found = 0 }) run grown q.first q.history x.history_is.true_of);
          orderly = ((both.0, both.1, ap (λ (j : IrpLife). life_of j + 1) (sym now)), x.history_is.orderly);
          given_is = λ j n. x.history_is.given_is j (ap (λ s. again s j) outside);
          putting_back = λ j n. off n;
          owners = ((λ j n. off n), x.history_is.owners);
          due = due_more (record { pass = r.pass; kind = Renew i; found = 0 }) r.steps r.completed (λ j. refl);
        },
        ap life_in (ws i.irp known).cancel_is ∙ (life_in-put (present_life size.first run i.irp) _ (bit_bound (flagged run (present size.first run i.irp))) ∙ sym may.is_present),
      )

-- the life of a status word
pub life_seen : (w life : ℕ) (d b : Bool) → SaysStatus w life d b → status_life_in w ≡ life
life_seen w life false b h = ap status_life_in h ∙ status_life_in-unset life
life_seen w life true b h = h.0

-- a status that was recorded is stored, or the word stands for a later life
pub recorded_stored : (words : List ℕ) (i : IrpLife) (status : NtStatus) (cs : List Completion) → AreStored words cs → status_recorded i cs ≡ Some status → SaysStatusOf i status (slice_index words (status_at i.irp))
recorded_stored words i status [] h e = none_is status e
recorded_stored words i status (c ∷ cs) h e = by_value (λ b. cond b (Some c.status) (status_recorded i cs) ≡ Some status → SaysStatusOf i status (slice_index words (status_at i.irp))) (same_irp c.irp i)
    (λ x e. let same = same_irp-eq c.irp i x in
    let is : c.status ≡ status = cc e in
    subst (λ (z : IrpLife × NtStatus). SaysStatusOf z.0 z.1 (slice_index words (status_at z.0.irp))) (λ k. (same k, is k)) h.0)
    (λ _ e. recorded_stored words i status cs h.1 e) e

module _ (size : Size) (words : List ℕ) (views : List View) (trace : List Tick) (id : ℕ) (q : QueueRecord) (r : PassRecord) (seat : PassId → ℕ) (k : RuleHoldsBy size words views trace id q (Some r) seat) (n : IrpId) (known : n.0 < size.irps) (idle : q.reusing ≡ Nothing) where
  abbrev look_run : List Made
  look_run = steps_in trace

  abbrev seen_irp : IrpLife
  seen_irp = present_in (queue_of q) n

  abbrev seen_word : ℕ
  seen_word = slice_index words (status_at n)

  now_is : seen_irp ≡ present size.first look_run n
  now_is = irp_eq seen_irp (present size.first look_run n) refl (k.agrees.history_is.lives_are n)

  -- the status word is the present life's
  says : SaysStatus seen_word (life_of seen_irp) (is_done look_run seen_irp) (removed look_run seen_irp)
  says =
      let ws : HasWords size.first words look_run Nothing n = subst (λ s. HasWords size.first words look_run s n) idle (k.agrees.words_are n known) in
      subst (λ (j : IrpLife). SaysStatus seen_word (life_of j) (is_done look_run j) (removed look_run j)) (sym now_is) ws.status_is

  done_seen : (w life : ℕ) (d b : Bool) → SaysStatus w life d b → is_some (status_in w) ≡ true → d ≡ true
  done_seen w life false b h e = off (sym (ap is_some (ap status_in h ∙ status_in-unset life)) ∙ e)
  done_seen w life true b h e = refl

  -- the life was completed exactly where a status is seen
  pub finds_done : is_done look_run seen_irp ≡ is_some (status_in seen_word)
  finds_done = go seen_word (life_of seen_irp) (is_done look_run seen_irp) (removed look_run seen_irp) says
    where
      go : (w life : ℕ) (d b : Bool) → SaysStatus w life d b → d ≡ is_some (status_in w)
      go w life false b h = sym (ap is_some (ap status_in h ∙ status_in-unset life))
      go w life true b h = sym (ap is_some h.1.1)

  -- a look changes the progress at most, and observes the execution
  look_kept : (b : Bool) → (is_some (status_in seen_word) && nat_lt (life_of seen_irp) last_life) ≡ b → KeptAfter size words views trace id seat (after_look seen_irp seen_word (with_trace trace q)) r
  look_kept true e =
      let both = and_parts _ _ e in
      let done = done_seen seen_word (life_of seen_irp) (is_done look_run seen_irp) (removed look_run seen_irp) says both.0 in
      let may : MayRenew size look_run seen_irp = record { known = known; is_present = k.agrees.history_is.lives_are n; done = done; few = ltb-true (life_of seen_irp) last_life both.1 } in
      rw e (renewal_kept size words words views trace trace id q r seat (Looked seen_irp) ([], refl) k refl
      (λ m l. let ws : HasWords size.first words look_run Nothing m = subst (λ s. HasWords size.first words look_run s m) idle (k.agrees.words_are m l) in record { cancel_is = ws.cancel_is; routine_is = ws.routine_is; status_is = ws.status_is })
      may (λ cs h. h))
  look_kept false e = rw e (renewal_kept size words words views trace trace id q r seat q.reusing ([], refl) k refl k.agrees.words_are k.agrees.reuse_is (λ cs h. h))

  -- where no status is seen, the pass completed nothing in that life
  none_seen : status_in seen_word ≡ None → status_recorded seen_irp r.completed ≡ None
  none_seen unset = go (status_recorded seen_irp r.completed) refl
    where
      stored : AreStored words r.completed
      stored = ((k.each_view id (view_of q (Some r)) k.queue_is).pass_here r refl).2.stored

      go : (o : Option NtStatus) → status_recorded seen_irp r.completed ≡ o → o ≡ None
      go None e = refl
      go (Some s) e = ⊎_elim
          (λ (x : (status_life_in seen_word ≡ life_of seen_irp) × (status_in seen_word ≡ Some s)). none_is s (sym unset ∙ x.1))
          (λ (x : life_of seen_irp < status_life_in seen_word). let life = life_seen seen_word (life_of seen_irp) (is_done look_run seen_irp) (removed look_run seen_irp) says in absurd (omega (arith, x, life)))
          (recorded_stored words seen_irp s r.completed stored e)

module _ (size : Size) (slots id : ℕ) (q : QueueRecord) (r : PassRecord) (held : List (ℕ × Unit {0})) where
  looks : (n : IrpId) → n.0 < size.irps → q.reusing ≡ Nothing → Allows (RuleHolds size) slots id (view_of q (Some r), held) (status_at n) (λ w. w) (Looks size n (step slots (status_at n) 0 0 none) (view_of q (Some r), held))
  looks n known idle s h _ here _ =
      let (trace, seat, k) = at_queue size s id q (Some r) h here in
      let run = steps_in trace in
      let i = present_in (queue_of q) n in
      let w = slice_index s.words (status_at n) in
      let q' = after_look i w (with_trace trace q) in
      let kept = look_kept size s.words s.views trace id q r seat k n known idle (is_some (status_in w) && nat_lt (life_of i) last_life) refl in (
        view_of q' (Some r),
        keeps,
        tt,
        (trace, id, q', Some r, seat, subst (λ ws. RuleHoldsBy size ws (set s.views id (view_of q' (Some r))) trace id q' (Some r) seat) (sym (set-get_or s.words (status_at n) 0)) kept.0),
        (refl, life_seen w (life_of i) (is_done run i) (removed run i) (says size s.words s.views trace id q r seat k n known idle), record { call = record { agreed = kept.1; in_call = kept.0.traced.in_call r refl }; follows = (k.each_seen id (view_of q (Some r)) here).queue q refl }, finds_done size s.words s.views trace id q r seat k n known idle, none_seen size s.words s.views trace id q r seat k n known idle),
      )

  module _ (i : IrpLife) where
    renews_status : (v : ℕ) → q.reusing ≡ Looked i → (life_of i < last_life → v ≡ unset_word (life_of i + 1)) → Allows (RuleHolds size) slots id (view_of q (Some r), held) (status_at i.irp) (λ _. v) (RenewsStatus size i (step slots (status_at i.irp) v 0 none) (view_of q (Some r), held))
    renews_status v at put s h _ here _ =
        let (trace, seat, k) = at_queue size s id q (Some r) h here in
        let run = steps_in trace in
        let kept = status_kept size s.words s.views trace id q r seat k i at v put in
        (view_of (with_reusing (StatusRenewed i) q) (Some r), keeps, tt, (trace, id, with_reusing (StatusRenewed i) q, Some r, seat, kept.0.0), (refl, kept.1, kept.2, (trace, kept.0.1)))

    renews_cancel : q.reusing ≡ StatusRenewed i → inside_of r.steps ≡ inner.Nothing → Allows (RuleHolds size) slots id (view_of q (Some r), held) (cancel_at i.irp) (λ _. bit_word (life_of i + 1) 0) (RenewsCancel size i (step slots (cancel_at i.irp) (bit_word (life_of i + 1) 0) 0 none) (view_of q (Some r), held))
    renews_cancel at outside s h _ here _ =
        let (trace, seat, k) = at_queue size s id q (Some r) h here in
        let run = steps_in trace in
        let es = event.Reuse i.irp (next_life i).life ∷ [] in
        let now = made_trace r (Renew i) 0 es trace in
        let made = cancel_made size s.words s.views trace id q r seat k i at outside in
        let kept = made_kept size s.words (set s.words (cancel_at i.irp) (bit_word (life_of i + 1) 0)) s.views trace id q r seat (Renew i) 0 es Nothing k made.0
        (step_traced k.traced (call.Reuse i.irp) (Renew i) 0 refl (sym (sees size s.words s.views trace id q r seat k).same ∙ outside)) in (
          after_renewal i (with_trace now q) r,
          keeps,
          tt,
          (now, id, made_record r es Nothing now q, Some (with_calls es (with_step (Renew i) 0 r)), seat, kept.0),
          (refl, made.1, kept.1),
        )

-- the same at a view that is known, and with words that are known by their places and values
module _ (size : Size) (slots id : ℕ) (m : SeatView) (q : QueueRecord) (r : PassRecord) (is : m.0 ≡ view_of q (Some r)) (i j : IrpLife) (named : j ≡ i) (other : Size) (sized : other ≡ size) where
  pub renews_status_as : (place v : ℕ) → place ≡ status_at i.irp → q.reusing ≡ Looked i → (life_of i < last_life → v ≡ unset_word (life_of i + 1)) → Allows (RuleHolds size) slots id m place (λ _. v) (RenewsStatus other j (step slots place v 0 none) m)
  renews_status_as place v lies at put = subst (λ (z : View × IrpLife × Size × ℕ). Allows (RuleHolds size) slots id (z.0, m.1) z.3 (λ _. v) (RenewsStatus z.2 z.1 (step slots z.3 v 0 none) (z.0, m.1))) (λ k. (sym is k, sym named k, sym sized k, sym lies k)) (renews_status size slots id q r m.1 i v at put)

  pub renews_cancel_as : (place v : ℕ) → place ≡ cancel_at i.irp → v ≡ bit_word (life_of i + 1) 0 → q.reusing ≡ StatusRenewed i → inside_of r.steps ≡ inner.Nothing → Allows (RuleHolds size) slots id m place (λ _. v) (RenewsCancel other j (step slots place v 0 none) m)
  renews_cancel_as place v lies put at outside = subst (λ (z : View × IrpLife × Size × ℕ × ℕ). Allows (RuleHolds size) slots id (z.0, m.1) z.4 (λ _. z.3) (RenewsCancel z.2 z.1 (step slots z.4 z.3 0 none) (z.0, m.1))) (λ k. (sym is k, sym named k, sym sized k, sym put k, sym lies k)) (renews_cancel size slots id q r m.1 i at outside)

pub looks_as : (size : Size) (slots id : ℕ) (m : SeatView) (q : QueueRecord) (r : PassRecord) → m.0 ≡ view_of q (Some r) → (n : IrpId) (j : IrpLife) → j.irp ≡ n → n.0 < size.irps → (other : Size) → other ≡ size → (place : ℕ) → place ≡ status_at n → q.reusing ≡ Nothing
    → Allows (RuleHolds size) slots id m place (λ w. w) (Looks other j.irp (step slots place 0 0 none) m)
looks_as size slots id m q r is n j named known other same place lies idle = subst (λ (z : View × IrpId × Size × ℕ). Allows (RuleHolds size) slots id (z.0, m.1) z.3 (λ w. w) (Looks z.2 z.1 (step slots z.3 0 0 none) (z.0, m.1))) (λ k. (sym is k, sym named k, sym same k, sym lies k)) (looks size slots id q r m.1 n known idle)
