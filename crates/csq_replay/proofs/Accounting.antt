-- Each IRP that an insert accepted is accounted for.
use Rattle.std.proofs.Common.{◌≡◌, ℕ, Bool, true, false, cond, not, ◌&&◌, ◌||◌, ◌==◌, ◌⊎◌, inl, inr, List, [], ◌∷◌, Option, Some, None, refl, ap, sym, ◌∙◌, subst}
use Rattle.csq_replay.proofs.Imports.{by_test, by_value, or_left, or_right, and_parts, not-true, or-false, and-false, FileId, IrpId, NtStatus, CANCELLED, Kind, Arm, Test, Disarm, End, Flag, Take, Out, Done, Renew, Rearm, Made, same_irp, same_pass, IrpLife, bit, armed, holds, same_irp-refl, same_irp-eq, same_pass-refl, status_recorded, Place, Peek, File, InsertStatus, matches, Queued, Limits, plain_listing, refusal, reply_to_insert, first_unmarked, has_irp, has_entry, has_unmarked, has_marked, marking, without, new_entry, ScriptCall, Next, Mark, Routine, Complete, Close, Reply, Removed, NoIrp, Claimed, Unclaimed, Completed, Closed, Script, script_pass, new_script, present_of, after_reuse, next_step, after_steps, removal_steps, named_removal_steps, doing, completing, after_mark, Calls, Cleans, Does, refuses_insert, lists, cancels_insert, removes_next, removes, removes_none, claims, claims_none, runs_routine, has_no_claim, completes, holds_none, refuses_pending, refuses_put_back, puts_back, cancels_put_back, closes, is_stale, reuses, not_completed, lives_spent, reports_flag, reports_status, knows_no_irp, knows_no_file, none_left, one_more, calls, cancel_claimed, cancel_unclaimed, cleaned, LeadTo, AreMarked}
use Rattle.csq_list.specs.declared.refusals.InsertStatus.TheVariants.{NotHome}
use Rattle.csq_list.proofs.Causes.{no_cause}
use Rattle.csq_words.specs.declared.views.InsertReply.{InsertReply}
use Rattle.csq_words.specs.declared.views.InsertReply.TheVariants as insert
use Rattle.csq_words.specs.declared.views.Event.TheVariants as event
use Rattle.csq_words.specs.declared.views.Completion.{Completion}
use Rattle.csq_words.specs.History.{IsGone}
use Rattle.csq_words.proofs.Entries.{has_entry-marking, has_entry-placed, has_entry-without}
use Rattle.csq_words.proofs.Facts.{bit_false}
use Rattle.csq_replay.specs.Laws.LeadTo.{at_end, by_nothing, by_call}
use Rattle.csq_replay.proofs.Queueing.{marks_stay, marks_placed, marks_without, marks_marking, marked_is, taken_routine, other_entry}
use Rattle.csq_replay.proofs.Cleaning.{removal_holds}

-- listed, held or completed
abbrev pub Accounted : Script → IrpLife → Type 0
Accounted s i = (has_entry s.queue.entries i ≡ true) ⊎ ((holds s.run script_pass i ≡ true) ⊎ ((status : NtStatus) × (status_recorded i s.completed ≡ Some status)))

-- what is kept from call to call
pub record Accounts (s : Script) : Type 0 where
  pub marks : AreMarked s.run s.queue.entries
  pub used : (i : IrpLife) → has_entry s.queue.entries i ≡ true → has_irp s.queue.used i ≡ true
  pub each : (i : IrpLife) → has_irp s.queue.used i ≡ true → Accounted s i

-- a step that completes nothing and puts nothing back takes nothing from what is held
abbrev gives_up : Kind → Bool
gives_up (Done i) = true
gives_up (Rearm i) = true
gives_up _ = false

holds_more : (E : List Made) (k : Kind) (i : IrpLife) → gives_up k ≡ false → holds E script_pass i ≡ true → holds (next_step E k) script_pass i ≡ true
holds_more E (Disarm j) i n h = or_right (((same_irp j i && bit (armed E j) == 1) || false) && same_pass script_pass script_pass) (holds E script_pass i) h
holds_more E (Out j) i n h = or_right (same_irp j i && same_pass script_pass script_pass) (holds E script_pass i) h
holds_more E (Done j) i n h = absurd cc
holds_more E (Rearm j) i n h = absurd cc
holds_more E k i n h = h

-- what an IRP was completed with stays, and one more is completed
reported_more : (completed : List Completion) (j : IrpLife) (status : NtStatus) (i : IrpLife) → (x : NtStatus) × (status_recorded i completed ≡ Some x) → (x : NtStatus) × (status_recorded i (record { irp = j; status = status } ∷ completed) ≡ Some x)
reported_more completed j status i h = by_value (λ b. (x : NtStatus) × (cond b (Some status) (status_recorded i completed) ≡ Some x)) (same_irp j i)
    (λ _. (status, refl))
    (λ _. h)

-- a completion keeps all accounted for
done_accounted : (s : Script) (j : IrpLife) (status : NtStatus) (i : IrpLife) → Accounted s i → Accounted (completing j status s) i
done_accounted s j status i (inl h) = inl h
done_accounted s j status i (inr (inl h)) = by_test (same_irp j i) (λ e. inr (inr (status, rw e refl))) (λ e. inr (inl (rw (e, h) refl)))
done_accounted s j status i (inr (inr h)) = inr (inr (reported_more s.completed j status i h))

pub done_accounts : (s : Script) (j : IrpLife) (status : NtStatus) → Accounts s → Accounts (completing j status s)
done_accounts s j status a = record {
  marks = marks_stay s.run (next_step s.run (Done j)) s.queue.entries (λ i there. refl) a.marks;
  used = a.used;
  each = λ i h. done_accounted s j status i (a.each i h);
}

-- what isn't used isn't listed
unused_unlisted : (s : Script) → Accounts s → (i : IrpLife) → has_irp s.queue.used i ≡ false → has_entry s.queue.entries i ≡ false
unused_unlisted s a i none = by_value (λ b. b ≡ false) (has_entry s.queue.entries i) (λ e. let used = a.used i e in absurd (cc (used, none))) (λ _. refl)

-- the entries after a removal that answers this
abbrev left_after : Option IrpLife → List Queued → List Queued
left_after None es = es
left_after (Some i) es = without i es

stays_apart : (i : IrpLife) (es : List Queued) (j : IrpLife) → has_entry (without i es) j ≡ true → same_irp i j ≡ false
stays_apart i es j there = by_value (λ b. (not b && has_entry es j) ≡ true → b ≡ false) (same_irp i j)
    (λ _ h. absurd cc)
    (λ _ h. refl) (sym (has_entry-without i es j) ∙ there)

-- one Disarm: of an IRP without its routine, or of one that leaves
marks_miss : (E : List Made) (i : IrpLife) (es : List Queued) → armed E i ≡ false → AreMarked E es → AreMarked (next_step E (Disarm i)) es
marks_miss E i es gone h = marks_stay E (next_step E (Disarm i)) es (λ j there. taken_routine E i j (same_irp i j || false) (or-false (same_irp i j)) gone) h

marks_leave : (E : List Made) (i : IrpLife) (es : List Queued) → AreMarked E es → AreMarked (next_step E (Disarm i)) (without i es)
marks_leave E i es h = marks_stay E (next_step E (Disarm i)) (without i es) (λ j there. ap (λ b. not (b || false) && armed E j) (stays_apart i es j there)) (marks_without E i es h)

mark_off : (a m : Bool) → m ≡ not a → m ≡ true → a ≡ false
mark_off true m is e = absurd (cc (is, e))
mark_off false m is e = refl

-- what a removal leaves is marked, and what was held is held
marks_removal : (k : Peek) (all es : List Queued) (E : List Made) → AreMarked E all → AreMarked E es → AreMarked (after_steps (removal_steps k es) E) (left_after (first_unmarked k es) all)
marks_removal k all [] E ha h = marks_stay E (next_step E End) all (λ j there. refl) ha
marks_removal k all (e ∷ es) E ha h = go (marks_removal k all es) (matches k e.file) refl e.marked refl
  where
    go : ((F : List Made) → AreMarked F all → AreMarked F es → AreMarked (after_steps (removal_steps k es) F) (left_after (first_unmarked k es) all)) → (b : Bool) → matches k e.file ≡ b → (m : Bool) → e.marked ≡ m
        → AreMarked (after_steps (removal_steps k (e ∷ es)) E) (left_after (first_unmarked k (e ∷ es)) all)
    go rest false other m marked = rw other (rw (and-false (not e.marked)) (rest E ha h.1))
    go rest true match true marked =
        let gone : armed E e.irp ≡ false = mark_off (armed E e.irp) e.marked h.0 marked in
        rw (match, marked) (rest (next_step E (Disarm e.irp)) (marks_miss E e.irp all gone ha) (marks_miss E e.irp es gone h.1))
    go rest true match false marked = rw (match, marked) (marks_leave E e.irp all ha)

holds_removal : (k : Peek) (es : List Queued) (E : List Made) (i : IrpLife) → holds E script_pass i ≡ true → holds (after_steps (removal_steps k es) E) script_pass i ≡ true
holds_removal k [] E i h = holds_more E End i refl h
holds_removal k (e ∷ es) E i h = go (λ F. holds_removal k es F i) (matches k e.file) refl e.marked refl
  where
    go : ((F : List Made) → holds F script_pass i ≡ true → holds (after_steps (removal_steps k es) F) script_pass i ≡ true) → (b : Bool) → matches k e.file ≡ b → (m : Bool) → e.marked ≡ m
        → holds (after_steps (removal_steps k (e ∷ es)) E) script_pass i ≡ true
    go rest false other m marked = rw other (rest E h)
    go rest true match true marked = rw (match, marked) (rest (next_step E (Disarm e.irp)) (holds_more E (Disarm e.irp) i refl h))
    go rest true match false marked = rw (match, marked) (holds_more E (Disarm e.irp) i refl h)

module _ (s : Script) (a : Accounts s) (F : List Made) (closed : List FileId) (flags : List IrpLife) (lives : IrpId → ℕ) (kept : (j : IrpLife) → holds s.run script_pass j ≡ true → holds F script_pass j ≡ true) where
  -- a script with another run, whose entries stay
  stays : List Queued → Script
  stays es = record { run = F; queue = record { entries = es; closed = closed; used = s.queue.used; flags = flags; lives = lives; file_of = s.queue.file_of }; completed = s.completed }

  pub stays_accounts : (es : List Queued) → ((j : IrpLife) → has_entry es j ≡ has_entry s.queue.entries j) → AreMarked F es
      → Accounts (record { run = F; queue = record { entries = es; closed = closed; used = s.queue.used; flags = flags; lives = lives; file_of = s.queue.file_of }; completed = s.completed })
  stays_accounts es same marks = record { marks = marks; used = λ j h. a.used j (sym (same j) ∙ h); each = λ j h. go j (a.each j h) }
    where
      go : (j : IrpLife) → Accounted s j → Accounted (record { run = F; queue = record { entries = es; closed = closed; used = s.queue.used; flags = flags; lives = lives; file_of = s.queue.file_of }; completed = s.completed }) j
      go j (inl h) = inl (same j ∙ h)
      go j (inr (inl h)) = inr (inl (kept j h))
      go j (inr (inr h)) = inr (inr h)

  -- one whose IRP leaves, and is held
  pub leaves_accounts : (i : IrpLife) → AreMarked F (without i s.queue.entries) → holds F script_pass i ≡ true
      → Accounts (record { run = F; queue = record { entries = without i s.queue.entries; closed = closed; used = s.queue.used; flags = flags; lives = lives; file_of = s.queue.file_of }; completed = s.completed })
  leaves_accounts i marks mine = record { marks = marks; used = λ j h. a.used j (still j (same_irp i j) (sym (has_entry-without i s.queue.entries j) ∙ h)); each = λ j h. go j (a.each j h) }
    where
      still : (j : IrpLife) (b : Bool) → (not b && has_entry s.queue.entries j) ≡ true → has_entry s.queue.entries j ≡ true
      still j true h = absurd cc
      still j false h = h

      left : (j : IrpLife) (b : Bool) → same_irp i j ≡ b → has_entry s.queue.entries j ≡ true
          → Accounted (record { run = F; queue = record { entries = without i s.queue.entries; closed = closed; used = s.queue.used; flags = flags; lives = lives; file_of = s.queue.file_of }; completed = s.completed }) j
      left j true e h = inr (inl (ap (holds F script_pass) (sym (same_irp-eq i j e)) ∙ mine))
      left j false e h = inl (has_entry-without i s.queue.entries j ∙ rw (e, h) refl)

      go : (j : IrpLife) → Accounted s j → Accounted (record { run = F; queue = record { entries = without i s.queue.entries; closed = closed; used = s.queue.used; flags = flags; lives = lives; file_of = s.queue.file_of }; completed = s.completed }) j
      go j (inl h) = left j (same_irp i j) refl h
      go j (inr (inl h)) = inr (inl (kept j h))
      go j (inr (inr h)) = inr (inr h)

-- an insert that isn't refused
accepted : (o : Option InsertStatus) (b : Bool) (r : InsertReply) → r ≡ reply_to_insert o b → ((cause : InsertStatus) → r ≡ insert.Refused cause → ⊥) → None ≡ o
accepted None b r is other = refl
accepted (Some cause) b r is other = absurd (other cause is)

module _ (l : Limits) (s : Script) (a : Accounts s) (n : IrpId) (f : FileId) where
  abbrev i : IrpLife
  i = present_of s n

  unused : None ≡ refusal l s.queue n f → has_irp s.queue.used i ≡ false
  unused none = no_cause (plain_listing l s.queue) n f (sym none) NotHome

  module _ (place : Place) (absent : has_entry s.queue.entries i ≡ false) where
    pub lists_accounts : Accounts (doing (Arm i ∷ Test i ∷ []) (event.Insert n f place insert.Pending) s)
    lists_accounts = record {
      marks = marks_placed (after_steps (Arm i ∷ Test i ∷ []) s.run) place (new_entry i f) s.queue.entries (rw same_irp-refl refl)
          (marks_stay s.run (after_steps (Arm i ∷ Test i ∷ []) s.run) s.queue.entries (λ j there. ap (λ b. (b || false) || armed s.run j) (other_entry s.queue.entries i j absent there)) a.marks);
      used = λ j h. used_more j (same_irp i j) (sym (has_entry-placed place (new_entry i f) s.queue.entries j) ∙ h);
      each = λ j h. each_more j (same_irp i j) refl h;
    }
      where
        used_more : (j : IrpLife) (b : Bool) → (b || has_entry s.queue.entries j) ≡ true → (b || has_irp s.queue.used j) ≡ true
        used_more j true h = refl
        used_more j false h = a.used j h

        old : (j : IrpLife) → Accounted s j → Accounted (doing (Arm i ∷ Test i ∷ []) (event.Insert n f place insert.Pending) s) j
        old j (inl h) = inl (has_entry-placed place (new_entry i f) s.queue.entries j ∙ or_right (same_irp i j) (has_entry s.queue.entries j) h)
        old j (inr (inl h)) = inr (inl h)
        old j (inr (inr h)) = inr (inr h)

        each_more : (j : IrpLife) (b : Bool) → same_irp i j ≡ b → (same_irp i j || has_irp s.queue.used j) ≡ true → Accounted (doing (Arm i ∷ Test i ∷ []) (event.Insert n f place insert.Pending) s) j
        each_more j true e h = inl (has_entry-placed place (new_entry i f) s.queue.entries j ∙ or_left (same_irp i j) (has_entry s.queue.entries j) e)
        each_more j false e h = old j (a.each j (rw e at h))

    pub cancels_accounts : Accounts (doing (Arm i ∷ Test i ∷ Disarm i ∷ []) (event.Insert n f place insert.Cancelled) s)
    cancels_accounts = record {
      marks = marks_stay s.run (after_steps (Arm i ∷ Test i ∷ Disarm i ∷ []) s.run) s.queue.entries (λ j there. rw (other_entry s.queue.entries i j absent there) refl) a.marks;
      used = λ j h. or_right (same_irp i j) (has_irp s.queue.used j) (a.used j h);
      each = λ j h. each_more j (same_irp i j) refl h;
    }
      where
        old : (j : IrpLife) → Accounted s j → Accounted (doing (Arm i ∷ Test i ∷ Disarm i ∷ []) (event.Insert n f place insert.Cancelled) s) j
        old j (inl h) = inl h
        old j (inr (inl h)) = inr (inl (holds_more (after_steps (Arm i ∷ Test i ∷ []) s.run) (Disarm i) j refl h))
        old j (inr (inr h)) = inr (inr h)

        each_more : (j : IrpLife) (b : Bool) → same_irp i j ≡ b → (same_irp i j || has_irp s.queue.used j) ≡ true → Accounted (doing (Arm i ∷ Test i ∷ Disarm i ∷ []) (event.Insert n f place insert.Cancelled) s) j
        each_more j true e h = inr (inl (rw (e, same_irp-refl, same_pass-refl) refl))
        each_more j false e h = old j (a.each j (rw e at h))

module _ (s : Script) (a : Accounts s) (i : IrpLife) (f : FileId) (place : Place) (gone : IsGone s.queue i) where
  -- what else is held stays held
  still_held : (E : List Made) (j : IrpLife) → same_irp i j ≡ false → holds E script_pass j ≡ true → holds (next_step E (Rearm i)) script_pass j ≡ true
  still_held E j other h = rw (other, h) refl

  puts_back_accounts : Accounts (doing (Rearm i ∷ Test i ∷ []) (event.PutBack i f place insert.Pending) s)
  puts_back_accounts = record {
    marks = marks_placed (after_steps (Rearm i ∷ Test i ∷ []) s.run) place (new_entry i f) s.queue.entries (rw same_irp-refl refl)
        (marks_stay s.run (after_steps (Rearm i ∷ Test i ∷ []) s.run) s.queue.entries (λ j there. ap (λ b. b || armed s.run j) (other_entry s.queue.entries i j gone.1 there)) a.marks);
    used = λ j h. used_more j (same_irp i j) refl (sym (has_entry-placed place (new_entry i f) s.queue.entries j) ∙ h);
    each = λ j h. each_more j (same_irp i j) refl (a.each j h);
  }
    where
      used_more : (j : IrpLife) (b : Bool) → same_irp i j ≡ b → (b || has_entry s.queue.entries j) ≡ true → has_irp s.queue.used j ≡ true
      used_more j true e h = ap (has_irp s.queue.used) (sym (same_irp-eq i j e)) ∙ gone.0
      used_more j false e h = a.used j h

      each_more : (j : IrpLife) (b : Bool) → same_irp i j ≡ b → Accounted s j → Accounted (doing (Rearm i ∷ Test i ∷ []) (event.PutBack i f place insert.Pending) s) j
      each_more j true e h = inl (has_entry-placed place (new_entry i f) s.queue.entries j ∙ or_left (same_irp i j) (has_entry s.queue.entries j) e)
      each_more j false e (inl h) = inl (has_entry-placed place (new_entry i f) s.queue.entries j ∙ or_right (same_irp i j) (has_entry s.queue.entries j) h)
      each_more j false e (inr (inl h)) = inr (inl (still_held s.run j e h))
      each_more j false e (inr (inr h)) = inr (inr h)

  cancels_back_accounts : Accounts (doing (Rearm i ∷ Test i ∷ Disarm i ∷ []) (event.PutBack i f place insert.Cancelled) s)
  cancels_back_accounts = record {
    marks = marks_stay s.run (after_steps (Rearm i ∷ Test i ∷ Disarm i ∷ []) s.run) s.queue.entries (λ j there. rw (other_entry s.queue.entries i j gone.1 there) refl) a.marks;
    used = a.used;
    each = λ j h. each_more j (same_irp i j) refl (a.each j h);
  }
    where
      each_more : (j : IrpLife) (b : Bool) → same_irp i j ≡ b → Accounted s j → Accounted (doing (Rearm i ∷ Test i ∷ Disarm i ∷ []) (event.PutBack i f place insert.Cancelled) s) j
      each_more j true e h = inr (inl (rw (e, same_irp-refl, same_pass-refl) refl))
      each_more j false e (inl h) = inl h
      each_more j false e (inr (inl h)) = inr (inl (holds_more (after_steps (Rearm i ∷ Test i ∷ []) s.run) (Disarm i) j refl (still_held s.run j e h)))
      each_more j false e (inr (inr h)) = inr (inr h)

module _ (s : Script) (a : Accounts s) (i : IrpLife) where
  removed_one : true ≡ has_unmarked s.queue.entries i → Accounts (doing (named_removal_steps i s.queue.entries) (event.Remove i true) s)
  removed_one may =
      let set : armed s.run i ≡ true = (and_parts (has_entry s.queue.entries i) (armed s.run i) (sym (marked_is s.run s.queue.entries a.marks i).0 ∙ sym may)).1 in
      let P : List Made → Type 0 = λ E. Accounts (record { run = E; queue = record { entries = without i s.queue.entries; closed = s.queue.closed; used = s.queue.used; flags = s.queue.flags; lives = s.queue.lives; file_of = s.queue.file_of }; completed = s.completed }) in
      let steps : next_step s.run (Disarm i) ≡ after_steps (named_removal_steps i s.queue.entries) s.run = rw (← may) refl in
      subst P steps (leaves_accounts s a (next_step s.run (Disarm i)) s.queue.closed s.queue.flags s.queue.lives (λ j. holds_more s.run (Disarm i) j refl) i (marks_leave s.run i s.queue.entries a.marks)
      (rw (set, same_irp-refl, same_pass-refl) refl))

  removed_none : false ≡ has_unmarked s.queue.entries i → (b : Bool) → has_marked s.queue.entries i ≡ b → Accounts (doing (named_removal_steps i s.queue.entries) (event.Remove i false) s)
  removed_none may true marked =
      let gone : armed s.run i ≡ false = not-true (armed s.run i) (and_parts (has_entry s.queue.entries i) (not (armed s.run i)) (sym (marked_is s.run s.queue.entries a.marks i).1 ∙ marked)).1 in
      let P : List Made → Type 0 = λ E. Accounts (record { run = E; queue = s.queue; completed = s.completed }) in
      let E1 : List Made = next_step s.run (Disarm i) in
      let steps : next_step (next_step s.run (Disarm i)) End ≡ after_steps (named_removal_steps i s.queue.entries) s.run = rw (← may, marked) refl in
      subst P steps (stays_accounts s a (next_step (next_step s.run (Disarm i)) End) s.queue.closed s.queue.flags s.queue.lives (λ j. holds_more s.run (Disarm i) j refl) s.queue.entries (λ j. refl)
      (marks_stay (next_step s.run (Disarm i)) (next_step (next_step s.run (Disarm i)) End) s.queue.entries (λ j there. refl) (marks_miss s.run i s.queue.entries gone a.marks)))
  removed_none may false marked =
      let P : List Made → Type 0 = λ E. Accounts (record { run = E; queue = s.queue; completed = s.completed }) in
      let steps : next_step s.run End ≡ after_steps (named_removal_steps i s.queue.entries) s.run = rw (← may, marked) refl in
      subst P steps (stays_accounts s a (next_step s.run End) s.queue.closed s.queue.flags s.queue.lives (λ j h. h) s.queue.entries (λ j. refl)
      (marks_stay s.run (next_step s.run End) s.queue.entries (λ j there. refl) a.marks))

  marked_one : Accounts (doing [] (event.Mark i) (after_mark i s))
  marked_one = stays_accounts s a (next_step (next_step s.run (Flag i)) (Take i)) s.queue.closed (i ∷ s.queue.flags) s.queue.lives (λ j h. h) (marking i s.queue.entries) (has_entry-marking i s.queue.entries)
      (marks_marking s.run (next_step (next_step s.run (Flag i)) (Take i)) i s.queue.entries (λ j. refl) a.marks)

  marked_none : bit (armed s.run i) ≡ 0 → Accounts (after_mark i s)
  marked_none none = stays_accounts s a (next_step (next_step s.run (Flag i)) (Take i)) s.queue.closed (i ∷ s.queue.flags) s.queue.lives (λ j h. h) s.queue.entries (λ j. refl)
      (marks_stay s.run (next_step (next_step s.run (Flag i)) (Take i)) s.queue.entries (λ j there. taken_routine s.run i j (same_irp i j) refl (bit_false (armed s.run i) none)) a.marks)

  taken_out : Accounts (doing (Out i ∷ []) (event.Out i) s)
  taken_out = leaves_accounts s a (next_step s.run (Out i)) s.queue.closed s.queue.flags s.queue.lives (λ j. holds_more s.run (Out i) j refl) i
      (marks_stay s.run (next_step s.run (Out i)) (without i s.queue.entries) (λ j there. refl) (marks_without s.run i s.queue.entries a.marks))
      (rw (same_irp-refl, same_pass-refl) refl)

module _ (s : Script) (a : Accounts s) (k : Peek) where
  next_one : (i : IrpLife) → Some i ≡ first_unmarked k s.queue.entries → Accounts (doing (removal_steps k s.queue.entries) (event.RemoveNext k (Some i)) s)
  next_one i may =
      let F : List Made = after_steps (removal_steps k s.queue.entries) s.run in
      let P : Option IrpLife → Type 0 = λ o. AreMarked (after_steps (removal_steps k s.queue.entries) s.run) (left_after o s.queue.entries) in
      leaves_accounts s a (after_steps (removal_steps k s.queue.entries) s.run) s.queue.closed s.queue.flags s.queue.lives (holds_removal k s.queue.entries s.run) i
      (subst P (sym may) (marks_removal k s.queue.entries s.queue.entries s.run a.marks a.marks)) (removal_holds k i s.queue.entries s.run a.marks (sym may))

  next_none : None ≡ first_unmarked k s.queue.entries → Accounts (doing (removal_steps k s.queue.entries) (event.RemoveNext k None) s)
  next_none may =
      let P : Option IrpLife → Type 0 = λ o. AreMarked (after_steps (removal_steps k s.queue.entries) s.run) (left_after o s.queue.entries) in
      stays_accounts s a (after_steps (removal_steps k s.queue.entries) s.run) s.queue.closed s.queue.flags s.queue.lives (holds_removal k s.queue.entries s.run) s.queue.entries (λ j. refl)
      (subst P (sym may) (marks_removal k s.queue.entries s.queue.entries s.run a.marks a.marks))

calls_account : (l : Limits) (s t : Script) (c : ScriptCall) (r : Reply) → Calls l s c r t → Accounts s → Accounts t
calls_account l s t c r (refuses_insert n f place cause may) a = a
calls_account l s t c r (lists n f place may) a =
    lists_accounts l s a n f place
    (unused_unlisted s a (present_of s n) (unused l s a n f (accepted (refusal l s.queue n f) (has_irp s.queue.flags (present_of s n)) insert.Pending may (λ cause e. cc))))
calls_account l s t c r (cancels_insert n f place may) a =
    done_accounts _ (present_of s n) CANCELLED (cancels_accounts l s a n f place
    (unused_unlisted s a (present_of s n) (unused l s a n f (accepted (refusal l s.queue n f) (has_irp s.queue.flags (present_of s n)) insert.Cancelled may (λ cause e. cc)))))
calls_account l s t c r (removes_next k None may) a = next_none s a k may
calls_account l s t c r (removes_next k (Some i) may) a = next_one s a k i may
calls_account l s t c r (removes i known may) a = removed_one s a i may
calls_account l s t c r (removes_none i known may) a = removed_none s a i may (has_marked s.queue.entries i) refl
calls_account l s t c r (claims i known now found may) a = marked_one s a i
calls_account l s t c r (claims_none i known now found) a = marked_none s a i found
calls_account l s t c r (is_stale c' i names known stale) a = a
calls_account l s t c r (runs_routine n known owed may) a = done_accounts _ (present_of s n) CANCELLED (taken_out s a (present_of s n))
calls_account l s t c r (has_no_claim n known none) a = a
calls_account l s t c r (completes n status known held final) a = done_accounts s (present_of s n) status a
calls_account l s t c r (holds_none c' n takes known none) a = a
calls_account l s t c r (refuses_pending n known held) a = a
calls_account l s t c r (refuses_put_back n place cause known held may) a = a
calls_account l s t c r (puts_back n place known held may) a = puts_back_accounts s a (present_of s n) (s.queue.file_of n) place may.0
calls_account l s t c r (cancels_put_back n place known held may) a = done_accounts _ (present_of s n) CANCELLED (cancels_back_accounts s a (present_of s n) (s.queue.file_of n) place may.0)
calls_account l s t c r (closes f known) a = record { marks = a.marks; used = a.used; each = a.each }
calls_account l s t c r (reports_flag n known) a = a
calls_account l s t c r (reports_status n known) a = a
calls_account l s t c r (reuses n status known reported room may) a =
    stays_accounts s a (next_step s.run (Renew (present_of s n))) s.queue.closed s.queue.flags (after_reuse n s).queue.lives (λ j. holds_more s.run (Renew (present_of s n)) j refl) s.queue.entries (λ j. refl)
    (marks_stay s.run (next_step s.run (Renew (present_of s n))) s.queue.entries (λ j there. refl) a.marks)
calls_account l s t c r (not_completed n known none) a = a
calls_account l s t c r (lives_spent n status known reported last) a = a
calls_account l s t c r (knows_no_irp c' n names le) a = a
calls_account l s t c r (knows_no_file c' f names le) a = a

cleans_account : (l : Limits) (f : FileId) (s t : Script) (n : ℕ) → Cleans l f s n t → Accounts s → Accounts t
cleans_account l f s t n (none_left s' t' next) a = calls_account l s t (Next (File f)) NoIrp next a
cleans_account l f s t n (one_more i s' u v w m next complete rest) a =
    cleans_account l f v t m rest (calls_account l u v (Complete i CANCELLED) (Completed CANCELLED) complete (calls_account l s u (Next (File f)) (Removed i) next a))

does_account : (l : Limits) (s t : Script) (c : ScriptCall) (r : Reply) → Does l s c r t → Accounts s → Accounts t
does_account l s t c r (calls c' r' t' call) a = calls_account l s t c r call a
does_account l s t c r (cancel_claimed i u v mark routine) a = calls_account l u t (Routine i.irp) (Completed CANCELLED) routine (calls_account l s u (Mark i) Claimed mark a)
does_account l s t c r (cancel_unclaimed i u mark) a = calls_account l s t (Mark i) Unclaimed mark a
does_account l s t c r (cleaned f u v n close cleans) a = cleans_account l f u t n cleans (calls_account l s u (Close f) Closed close a)

-- so it is in the beginning, where no insert was accepted
pub new_accounts : (l : Limits) → Accounts (new_script l)
new_accounts l = record { marks = tt; used = λ i h. absurd cc; each = λ i h. absurd cc }

-- and after all that lines lead to
pub led_accounts : (l : Limits) (s t : Script) (lines : List (List ℕ)) → LeadTo l s lines t → Accounts s → Accounts t
led_accounts l s t lines (at_end u) a = a
led_accounts l s t lines (by_nothing u v line left skip led) a = led_accounts l s t left led a
led_accounts l s t lines (by_call u v w line left c r is does led) a = led_accounts l v t left led (does_account l s v c r does a)
