-- What is completed at the end is what the passes completed, each by its own record, where no life was begun anew.
use Rattle.std.proofs.Common.{◌≡◌, ◌≢◌, ◌⊎◌, ℕ, zero, suc, ◌+◌, ◌<◌, ◌≤◌, ◌||◌, ◌&&◌, cond, Bool, true, false, true≢false, List, [], ◌∷◌, length, Option, Some, None, is_some, inl, inr, refl, sym, ap, ◌∙◌, subst, ⊎_elim, arith, zero-add}
use Rattle.std.specs.Prelude.{slice_index}
use Rattle.std.proofs.lemmas.List.{length-map}
use mathlib.Core.Option.{some}
use lib.ListN.{get_elem?}
use Rattle.csq_words.specs.Traces.{steps_in}
use Rattle.csq_device.proofs.Imports.{cases_lt, lt-ltb, or_parts, or_right, and_from, false_from_ne_true, number, same_irp, same_pass, own, Each, IrpLife, Size, IsRun, IsKnown, IrpId, PassId, NtStatus, same_irp-refl, other_irp, same_pass-refl, Completion, HistoryEntry, Event, FlagSeen, Mark, Insert, RemoveNext, Remove, CloseFile, Reuse, PutBack, PassRecord, QueueState, after_event, end_of, is_call, calls_of, queue_of, FinalWords, IsFinal, final_status, same_pass-is, same_pass-not, tally, pass_numbered, by_number, tally_same, tally_more, tally_zero, irp_at, completed_count, is_reuse, has_reuse, AreServed, completions_of}
use Rattle.irp_core.specs.Lives.{present_life}
use Rattle.irp_core.specs.Owners.{owes, holds}
use Rattle.irp_core.specs.declared.step.Kind.{Kind}
use Rattle.irp_core.specs.declared.step.Kind.TheVariants.{Done}
use Rattle.irp_core.specs.declared.step.Made.{Made}
use Rattle.irp_core.proofs.Lives.{life_grows}
use Rattle.irp_core.proofs.Growing.{run_less, run_last}
use Rattle.csq_words.specs.declared.views.Event.TheVariants as event
use Rattle.csq_words.specs.declared.views.InsertReply.TheVariants.{Pending, Cancelled, Refused}
use Rattle.csq_words.specs.declared.views.QueueRecord.{QueueRecord}
use Rattle.csq_words.specs.Words.{status_at, status_in}
use Rattle.csq_words.specs.Rule.{is_done, SaysStatus, completed_in, with_done}
use Rattle.csq_words.proofs.Facts.{open_now, open_undone}
use Rattle.csq_words.proofs.Named.{irp_eq, same_id-not}
use Rattle.csq_words.proofs.Decoding.{status_in-unset}
use Rattle.csq_words.proofs.Closing.{status_is}

-- IRP n in the first life
abbrev in_first : ℕ → ℕ → IrpLife
in_first first n = record { irp = irp_at n; life = record { 0 = first } }

-- no life has ended
abbrev NoneEnded : ℕ → List Made → Type 0
NoneEnded first E = (n : IrpId) → present_life first E n ≡ first

-- how many completions the steps have
abbrev done_steps : List Made → ℕ
done_steps steps = length (completed_in steps)

-- the step p k v
abbrev step_of : PassId → Kind → ℕ → Made
step_of p k v = record { pass = p; kind = k; found = v }

earlier : (first : ℕ) (m : Made) (E : List Made) → NoneEnded first (m ∷ E) → NoneEnded first E
earlier first m E h n = let more = life_grows first m E n in let now = h n in omega (arith, more, now)

done_step : (size : Size) (p : PassId) (k : Kind) (v : ℕ) (E : List Made) → IsRun size (step_of p k v ∷ E) → NoneEnded size.first E → done_steps E ≡ tally (λ n. is_done E (in_first size.first n)) size.irps
    → done_steps (step_of p k v ∷ E) ≡ tally (λ n. is_done (step_of p k v ∷ E) (in_first size.first n)) size.irps
done_step size p (Done i) v E r none less =
    let last = run_last size (step_of p (Done i) v) E r in
    let before = run_less size (step_of p (Done i) v) E r in
    let held : (owes E p i || holds E p i) ≡ true = or_right (owes E p i) (holds E p i) last.owned in
    let named : i ≡ in_first size.first (number i) = irp_eq i (in_first size.first (number i)) refl (open_now size E before i p held ∙ none i.irp) in
    ap (λ (n : ℕ). suc n) less
    ∙ sym (tally_more (λ n. is_done E (in_first size.first n)) (λ n. is_done (step_of p (Done i) v ∷ E) (in_first size.first n)) (number i) size.irps last.known.irp
    (ap (is_done E) (sym named) ∙ open_undone size E before i p held)
    (ap (λ b. b || is_done E (in_first size.first (number i))) (ap (λ j. same_irp i j) (sym named) ∙ same_irp-refl i))
    (λ n ne. sym (ap (λ b. b || is_done E (in_first size.first n)) (other_irp i (in_first size.first n) (same_id-not i.irp (irp_at n) (λ e. ne (sym (ap (λ (x : IrpId). x.0) e))))))))
done_step size p k v E r none less = less

-- a run of first lives has as many completions as completed IRPs
done_tally : (size : Size) (E : List Made) → IsRun size E → NoneEnded size.first E → done_steps E ≡ tally (λ n. is_done E (in_first size.first n)) size.irps
done_tally size [] r none = sym (tally_zero (λ n. false) size.irps (λ n. refl))
done_tally size (m ∷ E) r none = done_step size m.pass m.kind m.found E r (earlier size.first m E none) (done_tally size E (run_less size m E r) (earlier size.first m E none))

-- f from, f (from + 1) and so on, so many, added up
abbrev pub sum_from : (ℕ → ℕ) → ℕ → ℕ → ℕ
sum_from f from zero = 0
sum_from f from (suc n) = f from + sum_from f (suc from) n

pub sum_same : (f g : ℕ → ℕ) (from n : ℕ) → ((j : ℕ) → from ≤ j → f j ≡ g j) → sum_from f from n ≡ sum_from g from n
sum_same f g from zero h = refl
sum_same f g from (suc n) h = λ k. h from (omega arith) k + sum_same f g (suc from) n (λ j l. h j (omega arith)) k

pub sum_zero : (from n : ℕ) → sum_from (λ j. 0) from n ≡ 0
sum_zero from zero = refl
sum_zero from (suc n) = zero-add (sum_from (λ j. 0) (suc from) n) ∙ sum_zero (suc from) n

-- one term is one more
sum_more : (f g : ℕ → ℕ) (j from n : ℕ) → from ≤ j → j < from + n → g j ≡ suc (f j) → ((i : ℕ) → i ≢ j → f i ≡ g i) → sum_from g from n ≡ suc (sum_from f from n)
sum_more f g j from zero low high up h = absurd (none j from low high)
  where
    none : (j from : ℕ) → from ≤ j → j < from + 0 → ⊥
    none j from low high = omega arith
sum_more f g j from (suc n) low high up h = by_number (sum_from g from (suc n) ≡ suc (sum_from f from (suc n))) j from
    (λ e. let rest = sum_same f g (suc from) n (λ i l. h i (later i j from l e)) in
    let here : g from ≡ suc (f from) = subst (λ (k : ℕ). g k ≡ suc (f k)) e up in omega (arith, rest, here))
    (λ ne. let rest = sum_more f g j (suc from) n (above j from low ne) (omega (arith, high)) up h in
    let here : f from ≡ g from = h from (λ e. ne (sym e)) in omega (arith, rest, here))
  where
    later : (i j from : ℕ) → suc from ≤ i → j ≡ from → i ≡ j → ⊥
    later i j from l e e' = omega arith

    above : (j from : ℕ) → from ≤ j → j ≢ from → suc from ≤ j
    above j from low ne = ⊎_elim (λ (l : from < j). omega (arith, l)) (λ (l : j ≤ from). absurd (ne (omega (arith, low, l)))) (cases_lt from j)

pass_other : (p : PassId) (k : ℕ) → p.0 ≢ k → same_pass p (pass_numbered k) ≡ false
pass_other p k ne = same_pass-not p (pass_numbered k) (λ e. ne (ap (λ (x : PassId). x.0) e))

-- a step that completes nothing adds nothing, whosever it is
kept : (b : Bool) (p : PassId) (k : Kind) (v : ℕ) (xs : List Made) → with_done k (completed_in xs) ≡ completed_in xs → done_steps xs ≡ done_steps (cond b (step_of p k v ∷ xs) xs)
kept true p k v xs e = ap (λ (is : List IrpLife). length is) (sym e)
kept false p k v xs e = refl

-- the completions of each pass of a run
abbrev by_pass_of : List Made → ℕ → ℕ
by_pass_of E j = done_steps (own (pass_numbered j) E)

pass_step : (n : ℕ) (p : PassId) (k : Kind) (v : ℕ) (E : List Made) → 1 ≤ p.0 → p.0 ≤ n → done_steps E ≡ sum_from (by_pass_of E) 1 n → done_steps (step_of p k v ∷ E) ≡ sum_from (by_pass_of (step_of p k v ∷ E)) 1 n
pass_step n p (Done i) v E from to less =
    ap (λ (n : ℕ). suc n) less
    ∙ sym (sum_more (by_pass_of E) (by_pass_of (step_of p (Done i) v ∷ E)) p.0 1 n from (omega (arith, to))
    (ap (λ b. done_steps (cond b (step_of p (Done i) v ∷ own (pass_numbered p.0) E) (own (pass_numbered p.0) E))) (same_pass-is p (pass_numbered p.0) refl))
    (λ j ne. sym (ap (λ b. done_steps (cond b (step_of p (Done i) v ∷ own (pass_numbered j) E) (own (pass_numbered j) E))) (pass_other p j (λ e. ne (sym e))))))
pass_step n p k v E from to less = less ∙ sum_same _ _ 1 n (λ j l. kept (same_pass p (pass_numbered j)) p k v (own (pass_numbered j) E) refl)

-- each completion is of one pass
pass_sum : (size : Size) (E : List Made) → Each (λ m before. IsKnown size m) E → done_steps E ≡ sum_from (by_pass_of E) 1 size.passes
pass_sum size [] known = sym (sum_zero 1 size.passes)
pass_sum size (m ∷ E) known = pass_step size.passes m.pass m.kind m.found E known.0.from known.0.to (pass_sum size E known.1)

-- a reuse is a call
reuse_is_call : (e : Event) → is_reuse e ≡ true → is_call e ≡ true
reuse_is_call (FlagSeen i) h = absurd (true≢false (sym h))
reuse_is_call (Mark i) h = absurd (true≢false (sym h))
reuse_is_call x h = refl

-- so some pass called it
reuse_called : (history : List HistoryEntry) → has_reuse history ≡ true → (p : PassId) × (has_reuse (calls_of p history) ≡ true)
reuse_called [] h = absurd (true≢false (sym h))
reuse_called (e ∷ history) h = at (is_reuse e.event) refl (reuse_called history)
  where
    more : (b : Bool) (xs : List HistoryEntry) → has_reuse xs ≡ true → has_reuse (cond b (e ∷ xs) xs) ≡ true
    more true xs g = or_right (is_reuse e.event) (has_reuse xs) g
    more false xs g = g

    at : (b : Bool) → is_reuse e.event ≡ b → (has_reuse history ≡ true → (p : PassId) × (has_reuse (calls_of p history) ≡ true)) → (p : PassId) × (has_reuse (calls_of p (e ∷ history)) ≡ true)
    at true t rest = (
      e.pass,
      ap (λ b. has_reuse (cond b (e ∷ calls_of e.pass history) (calls_of e.pass history))) (and_from (same_pass e.pass e.pass) (is_call e.event) (same_pass-refl e.pass) (reuse_is_call e.event t))
          ∙ ap (λ b. b || has_reuse (calls_of e.pass history)) t,
    )
    at false t rest =
        let found = rest (sym (ap (λ b. b || has_reuse history) t) ∙ h) in
        (found.0, more (same_pass e.pass found.0 && is_call e.event) (calls_of found.0 history) found.1)

-- where no event is a reuse, all lives are the first
lives_stay : (first : ℕ) (history : List HistoryEntry) → has_reuse history ≡ false → (n : IrpId) → (end_of first history).lives n ≡ first
lives_stay first [] h n = refl
lives_stay first (e ∷ history) h n =
    let parts = or_parts (is_reuse e.event) (has_reuse history) h in
    stays (end_of first history) e.event parts.0 ∙ lives_stay first history parts.1 n
  where
    stays : (u : QueueState) (e : Event) → is_reuse e ≡ false → (after_event u e).lives n ≡ u.lives n
    stays u (FlagSeen i) h = refl
    stays u (Mark i) h = refl
    stays u (Insert m f place Pending) h = refl
    stays u (Insert m f place Cancelled) h = refl
    stays u (Insert m f place (Refused cause)) h = refl
    stays u (RemoveNext k None) h = refl
    stays u (RemoveNext k (Some i)) h = refl
    stays u (Remove i false) h = refl
    stays u (Remove i true) h = refl
    stays u (event.Out i) h = refl
    stays u (CloseFile f) h = refl
    stays u (PutBack i f place Pending) h = refl
    stays u (PutBack i f place Cancelled) h = refl
    stays u (PutBack i f place (Refused cause)) h = refl
    stays u (Reuse m life) h = absurd (true≢false h)

status_done : (w life : ℕ) (d by_removal : Bool) → SaysStatus w life d by_removal → is_some (status_in w) ≡ d
status_done w life false by_removal h = ap (λ (n : ℕ). is_some (status_in n)) h ∙ ap (λ (o : Option NtStatus). is_some o) (status_in-unset life)
status_done w life true by_removal h = ap (λ (o : Option NtStatus). is_some o) h.1.1

module _ (size : Size) (finals : FinalWords) (q : QueueRecord) (irps : finals.irps ≡ size.irps) (made : q.made ≡ size.passes) (f : IsFinal size finals.words q) where
  -- a record that is back has as many completions as its pass made, and its calls are the history's
  module _ (k : ℕ) (r : PassRecord) (at : get_elem? q.back k ≡ some r) where
    record_count : length r.completed ≡ done_steps (own r.pass (steps_in q.trace))
    record_count =
        let back = (f.agrees.backs k r at).is_record.of_pass in
        sym (length-map r.completed (λ (c : Completion). c.irp)) ∙ (ap (λ (is : List IrpLife). length is) back.completed_is ∙ ap (λ (xs : List Made). done_steps xs) back.steps_is)

    record_calls : has_reuse r.mine ≡ false → has_reuse (calls_of r.pass q.history) ≡ false
    record_calls h = ap has_reuse (sym (f.agrees.backs k r at).is_record.of_pass.mine_is) ∙ h

  served_sum : (from : ℕ) (rs : List PassRecord) → AreServed q from rs → completions_of rs ≡ sum_from (by_pass_of (steps_in q.trace)) from (length rs)
  served_sum from [] h = refl
  served_sum from (r ∷ rs) h = λ k. (record_count h.1.0 r h.1.1 ∙ ap (λ (p : PassId). done_steps (own p (steps_in q.trace))) h.0) k + served_sum (suc from) rs h.3 k

  served_calls : (from : ℕ) (rs : List PassRecord) → AreServed q from rs → (p : PassId) → from ≤ p.0 → p.0 < from + length rs → has_reuse (calls_of p q.history) ≡ false
  served_calls from [] h p low high = absurd (none from p.0 low high)
    where
      none : (from n : ℕ) → from ≤ n → n < from + 0 → ⊥
      none from n low high = omega arith
  served_calls from (r ∷ rs) h p low high = by_number (has_reuse (calls_of p q.history) ≡ false) p.0 from
      (λ e. let number' : ℕ → PassId = λ n. record { 0 = n } in let same : r.pass ≡ p = h.0 ∙ ap number' (sym e) in
      subst (λ (x : PassId). has_reuse (calls_of x q.history) ≡ false) same (record_calls h.1.0 r h.1.1 h.2))
      (λ ne. served_calls (suc from) rs h.3 p (above p.0 from low ne) (omega (arith, high)))
    where
      above : (j from : ℕ) → from ≤ j → j ≢ from → suc from ≤ j
      above j from low ne = ⊎_elim (λ (l : from < j). omega (arith, l)) (λ (l : j ≤ from). absurd (ne (omega (arith, low, l)))) (cases_lt from j)

  module _ (rs : List PassRecord) (all : length rs ≡ size.passes) (served : AreServed q 1 rs) where
    none_called : (p : PassId) → has_reuse (calls_of p q.history) ≡ false
    none_called p = ⊎_elim
        (λ (l : p.0 < 1). nobody (inl (omega (arith, l))))
        (λ (from : 1 ≤ p.0). ⊎_elim
        (λ (l : size.passes < p.0). nobody (inr (omega (arith, l, made))))
        (λ (to : p.0 ≤ size.passes). served_calls 1 rs served p from (omega (arith, to, all)))
        (cases_lt size.passes p.0))
        (cases_lt p.0 1)
      where
        nobody : ((p.0 ≡ 0) ⊎ (q.made < p.0)) → has_reuse (calls_of p q.history) ≡ false
        nobody s = ap has_reuse (f.agrees.nobody p s).1

    none_reused : has_reuse q.history ≡ false
    none_reused = false_from_ne_true (has_reuse q.history) (λ t. let called = reuse_called q.history t in true≢false (sym called.1 ∙ none_called called.0))

    still_first : (n : IrpId) → (queue_of q).lives n ≡ size.first
    still_first n = lives_stay q.first q.history none_reused n ∙ f.agrees.history_is.first_is

    -- as many IRPs are completed at the end as the passes completed
    pub handed_is_completed : completed_count finals finals.irps ≡ completions_of rs
    handed_is_completed =
        tally_same (λ n. is_some (final_status finals (irp_at n))) (λ n. is_done (steps_in q.trace) (in_first size.first n)) finals.irps said
        ∙ (ap (λ (m : ℕ). tally (λ n. is_done (steps_in q.trace) (in_first size.first n)) m) irps
        ∙ (sym (done_tally size (steps_in q.trace) f.agrees.history_is.is_run (λ n. sym (f.agrees.history_is.lives_are n) ∙ still_first n))
        ∙ (pass_sum size (steps_in q.trace) f.agrees.history_is.is_run.known
        ∙ (ap (λ (m : ℕ). sum_from (by_pass_of (steps_in q.trace)) 1 m) (sym all) ∙ sym (served_sum 1 rs served)))))
      where
        said : (n : ℕ) → n < finals.irps → is_some (final_status finals (irp_at n)) ≡ is_done (steps_in q.trace) (in_first size.first n)
        said n l =
            let inside : n < size.irps = subst (λ (m : ℕ). n < m) irps l in
            let i : IrpLife = record { irp = irp_at n; life = record { 0 = (queue_of q).lives (irp_at n) } } in
            ap (λ b. is_some (cond b (status_in (slice_index finals.words (status_at (irp_at n)))) None)) (lt-ltb n finals.irps l)
            ∙ (status_done _ _ _ _ (status_is size finals.words q f (irp_at n) inside)
            ∙ ap (is_done (steps_in q.trace)) (irp_eq i (in_first size.first n) refl (still_first (irp_at n))))
