-- What the calls answer that other calls are made of.
use Rattle.std.proofs.Common.{◌≡◌, ◌≢◌, ℕ, ◌+◌, ◌<◌, Bool, true, false, cond, not, ◌&&◌, ◌||◌, List, [], ◌∷◌, map, length, Some, None, refl, ap, sym, ◌∙◌, subst, arith}
use Rattle.csq_replay.proofs.Imports.{by_value, and_parts, not-true, not-false, or-false, and-false, or-true, length-map, FileId, IrpId, NtStatus, PENDING, CANCELLED, Disarm, Made, life_of, same_irp, IrpLife, armed, holds, Size, same_irp-refl, same_irp-eq, same_pass-refl, Peek, File, matches, is_listed, is_distinct, Listing, IsSound, filter-none, Queued, QueueState, Limits, present_in, first_unmarked, has_entry, without, after_event, plain, is_listed-plain, ArePresent, Next, Mark, Cancel, Close, Cleanup, Reply, Removed, NoIrp, Refused, Script, script_pass, present_of, completing, next_step, after_steps, removal_steps, Calls, Cleans, Does, removes_next, completes, holds_none, is_stale, knows_no_irp, knows_no_file, none_left, one_more, calls, Keeping, Keeps, AreMarked}
use Rattle.csq_words.specs.declared.views.Event.TheVariants as event
use Rattle.csq_replay.specs.declared.script.call.CallRefused.{CallRefused}
use Rattle.csq_replay.proofs.Removing.{present, entry_now, listed_is, listed_known}
use Rattle.csq_replay.proofs.Queueing.{marks_stay, taken_routine}

-- a mark that is refused refuses the cancel
pub cancel_refused : (l : Limits) (s t : Script) (i : IrpLife) (refusal : CallRefused) → Calls l s (Mark i) (Refused refusal) t → Does l s (Cancel i) (Refused refusal) t
cancel_refused l s t i refusal (is_stale c k names known stale) = calls (Cancel i) (Refused refusal) t (is_stale (Cancel i) k names known stale)
cancel_refused l s t i refusal (knows_no_irp c k names le) = calls (Cancel i) (Refused refusal) t (knows_no_irp (Cancel i) k names le)
cancel_refused l s t i refusal (knows_no_file c f names le) = absurd (cc names)
cancel_refused l s t i refusal (holds_none c n takes lt none) = absurd (cc takes)

-- a close that is refused refuses the cleanup
pub cleanup_refused : (l : Limits) (s t : Script) (f : FileId) (refusal : CallRefused) → Calls l s (Close f) (Refused refusal) t → Does l s (Cleanup f) (Refused refusal) t
cleanup_refused l s t f refusal (is_stale c j names known stale) = absurd (cc names)
cleanup_refused l s t f refusal (holds_none c n takes lt none) = absurd (cc takes)
cleanup_refused l s t f refusal (knows_no_irp c j names le) = absurd (cc names)
cleanup_refused l s t f refusal (knows_no_file c g names le) = calls (Cleanup f) (Refused refusal) t (knows_no_file (Cleanup f) g names le)

-- what a removal disarms last, it holds
pub removal_holds : (k : Peek) (i : IrpLife) (es : List Queued) (E : List Made) → AreMarked E es → first_unmarked k es ≡ Some i → holds (after_steps (removal_steps k es) E) script_pass i ≡ true
removal_holds k i [] E h f = absurd cc
removal_holds k i (e ∷ es) E h f = go (removal_holds k i es) (matches k e.file) refl e.marked refl
  where
    past : (a m : Bool) → (a ≡ false) → first_unmarked k (e ∷ es) ≡ Some i → (not e.marked && matches k e.file) ≡ false → first_unmarked k es ≡ Some i
    past a m x found none = rw none at found

    go : ((F : List Made) → AreMarked F es → first_unmarked k es ≡ Some i → holds (after_steps (removal_steps k es) F) script_pass i ≡ true) → (b : Bool) → matches k e.file ≡ b → (m : Bool) → e.marked ≡ m
        → holds (after_steps (removal_steps k (e ∷ es)) E) script_pass i ≡ true
    go rest false other m marked = rw other (rest E h.1 (past false m refl f (rw other (and-false (not e.marked)))))
    go rest true match true marked =
        let gone : armed E e.irp ≡ false = not-true (armed E e.irp) (sym h.0 ∙ marked) in
        let marks : AreMarked (next_step E (Disarm e.irp)) es = marks_stay E (next_step E (Disarm e.irp)) es (λ j there. taken_routine E e.irp j (same_irp e.irp j || false) (or-false (same_irp e.irp j)) gone) h.1 in
        rw (match, marked) (rest (next_step E (Disarm e.irp)) marks (past false true refl f (rw (match, marked) refl)))
    go rest true match false marked =
        let here : armed E e.irp ≡ true = not-false (armed E e.irp) (sym h.0 ∙ marked) in
        let found : Some e.irp ≡ Some i = rw (match, marked) at f in
        let same : e.irp ≡ i = cc in
        rw (match, marked) (rw here (rw (same, same_irp-refl, same_pass-refl) refl))

-- the IRP of a match is listed
pub first_listed : (k : Peek) (i : IrpLife) (es : List Queued) → first_unmarked k es ≡ Some i → has_entry es i ≡ true
first_listed k i [] f = absurd cc
first_listed k i (e ∷ es) f = by_value (λ b. (first_unmarked k es ≡ Some i → has_entry es i ≡ true) → (same_irp e.irp i || has_entry es i) ≡ true) (not e.marked && matches k e.file)
    (λ match rest. let found : Some e.irp ≡ Some i = rw match at f in
    let same : e.irp ≡ i = cc in
    rw (same, same_irp-refl) refl)
    (λ match rest. ap (λ b. same_irp e.irp i || b) (rest (rw match at f)) ∙ or-true (same_irp e.irp i)) (first_listed k i es)

-- one entry leaves
pub length_without : (lives : IrpId → ℕ) (i : IrpLife) (es : List Queued) → ArePresent lives es → is_distinct (map plain es) ≡ true → has_entry es i ≡ true → length (without i es) + 1 ≡ length es
length_without lives i [] present d h = absurd cc
length_without lives i (e ∷ es) present d h = go (same_irp e.irp i) refl h (length_without lives i es present.1 (and_parts _ _ d).1)
  where
    go : (b : Bool) → same_irp e.irp i ≡ b → (b || has_entry es i) ≡ true → (has_entry es i ≡ true → length (without i es) + 1 ≡ length es)
        → length (cond (not b) (e ∷ without i es) (without i es)) + 1 ≡ length (e ∷ es)
    go true same h rest =
        let alone : has_entry es i ≡ false = ap (has_entry es) (sym (same_irp-eq e.irp i same)) ∙ sym (is_listed-plain lives e.irp present.0 es present.1) ∙ not-true _ (and_parts _ _ d).0 in
        omega (arith, ap length (filter-none (λ (e : Queued). same_irp e.irp i) es alone))
    go false other h rest = omega (arith, rest h)

-- what a removal of the next match reports
pub next_removed : (l : Limits) (s t : Script) (k : Peek) (n : IrpId) (r : Reply) → r ≡ Removed n → Calls l s (Next k) r t
    → (j : IrpLife) × (j.irp ≡ n) × (first_unmarked k s.queue.entries ≡ Some j) × (t.run ≡ after_steps (removal_steps k s.queue.entries) s.run) × (t.queue ≡ after_event s.queue (event.RemoveNext k (Some j)))
next_removed l s t k n r is (removes_next k' (Some j) may) = let same : j.irp ≡ n = cc is in (j, same, sym may, refl, refl)
next_removed l s t k n r is (removes_next k' None may) = absurd (cc is)
next_removed l s t k n r is (is_stale c j names known stale) = absurd (cc names)
next_removed l s t k n r is (holds_none c j takes lt none) = absurd (cc takes)
next_removed l s t k n r is (knows_no_irp c j names le) = absurd (cc names)
next_removed l s t k n r is (knows_no_file c f names le) = absurd (cc names)

cancelled_final : CANCELLED ≢ PENDING
cancelled_final e = let same = ap (λ (s : NtStatus). s.0) e in absurd (omega (arith, same))

-- a cleanup so far: the script now, after so many completions
pub record CleansSoFar (l : Limits) (f : FileId) (s : Script) (kept : Keeping) (count : ℕ) : Type 0 where
  pub now : Script
  pub keeps : Keeps l kept now
  pub left : length now.queue.entries + count ≡ length s.queue.entries
  pub more : (m : ℕ) (u : Script) → Cleans l f now m u → Cleans l f s (count + m) u

pub cleans_first : (l : Limits) (f : FileId) (s : Script) (kept : Keeping) → Keeps l kept s → CleansSoFar l f s kept 0
cleans_first l f s kept k = record { now = s; keeps = k; left = omega arith; more = λ m u h. let P : ℕ → Type 0 = λ n. Cleans l f s n u in subst P (omega arith) h }

pub entries_length : (l : Limits) (kept : Keeping) (s : Script) → Keeps l kept s → length kept.listing.entries ≡ length s.queue.entries
entries_length l kept s k = ap (λ (x : Listing). length x.entries) k.listing ∙ length-map s.queue.entries plain

module _ (l : Limits) (f : FileId) (s : Script) (kept : Keeping) (count : ℕ) (h : CleansSoFar l f s kept count) where
  module _ (sound : IsSound kept.listing) (i : IrpId) (t : Script) (next : Calls l h.now (Next (File f)) (Removed i) t) where
    got : (j : IrpLife) × (j.irp ≡ i) × (first_unmarked (File f) h.now.queue.entries ≡ Some j) × (t.run ≡ after_steps (removal_steps (File f) h.now.queue.entries) h.now.run)
        × (t.queue ≡ after_event h.now.queue (event.RemoveNext (File f) (Some j)))
    got = next_removed l h.now t (File f) i (Removed i) refl next

    there : has_entry h.now.queue.entries got.0 ≡ true
    there = first_listed (File f) got.0 h.now.queue.entries got.2

    -- what was got, by its number
    got_now : present_of h.now i ≡ got.0
    got_now = ap (present_of h.now) (sym got.1) ∙ entry_now l kept h.now h.keeps got.0 there

    -- one entry less
    pub one_less : length t.queue.entries + 1 ≡ length h.now.queue.entries
    one_less =
        let distinct : is_distinct (map plain h.now.queue.entries) ≡ true = sym (ap (λ (x : Listing). is_distinct x.entries) h.keeps.listing) ∙ sound.distinct in
        ap (λ (q : QueueState). length q.entries + 1) got.4 ∙ length_without h.now.queue.lives got.0 h.now.queue.entries (present l kept h.now h.keeps) distinct there

    pub got_known : i.0 < l.irps
    got_known =
        let life : life_of (present_of h.now i) ≡ h.now.queue.lives i = refl in
        let here : is_listed kept.listing.entries i ≡ true = listed_is l kept h.now h.keeps (present_of h.now i) life ∙ ap (has_entry h.now.queue.entries) got_now ∙ there in
        omega (arith, listed_known l kept h.now h.keeps sound i here, ap (λ (n : Size). n.irps) h.keeps.size)

    pub got_held : holds t.run script_pass (present_of t i) ≡ true
    got_held =
        let mine : holds t.run script_pass got.0 ≡ true = ap (λ E. holds E script_pass got.0) got.3 ∙ removal_holds (File f) got.0 h.now.queue.entries h.now.run h.keeps.queue.marks got.2 in
        let name : present_of t i ≡ got.0 = ap (λ (q : QueueState). present_in q i) got.4 ∙ got_now in
        ap (holds t.run script_pass) name ∙ mine

    -- what was removed is completed
    abbrev last : Script
    last = completing (present_of t i) CANCELLED t

    pub cleans_more : (new : Keeping) → Keeps l new (completing (present_of t i) CANCELLED t) → CleansSoFar l f s new (count + 1)
    cleans_more new k = record {
      now = last;
      keeps = k;
      left = omega (arith, one_less, h.left);
      more = λ m v rest.
          let P : ℕ → Type 0 = λ n. Cleans l f s n v in
          subst P (omega arith) (h.more (m + 1) v (one_more i h.now t last v m next (completes i CANCELLED got_known got_held cancelled_final) rest));
    }

    pub cleans_nearer : (new : Keeping) → Keeps l new (completing (present_of t i) CANCELLED t) → length new.listing.entries < length kept.listing.entries
    cleans_nearer new k = omega (arith, entries_length l new last k, entries_length l kept h.now h.keeps, one_less)

    -- as many IRPs can be counted as there were entries
    pub cleans_few : count < length s.queue.entries
    cleans_few = omega (arith, one_less, h.left)

  -- none is left
  pub cleans_all : (t : Script) → Calls l h.now (Next (File f)) NoIrp t → Cleans l f s count t
  cleans_all t next =
      let P : ℕ → Type 0 = λ n. Cleans l f s n t in
      subst P (omega arith) (h.more 0 t (none_left h.now t next))
