-- The steps of a removal and of the cancel routine: disarm, end, out.
use Rattle.std.proofs.Common.{◌≡◌, ℕ, ◌<◌, true, false, cond, not, ◌&&◌, List, [], ◌∷◌, ◌++◌, set, refl, sym, ap, ◌∙◌, subst, arith, length-set}
use Rattle.csq_words.proofs.Imports.{by_value, and-false, or_right, inside_of, owes_in, was_removed_in, PassId, Disarm, End, Out, Made, Inside, number, life_of, same_irp, is, own, IrpLife, present, IrpId, armed, found_by, was_armed, after_disarm, follows, in_insert, owes, listed, taken, removed, Size, IsRun, same_irp-refl, grows_by_removal_disarm, grows_by_end, grows_by_out, Peek, Event, Mark, PassRecord, QueueRecord, Queued, QueueState, has_entry, has_unmarked, has_irp, marking, without, after_event, end_of, MayStand, IsOrderly, given_to, puts_back, OwnersPutBack, HistoryEntry, queue_of, entries_of, routine_at, bit_word, inserts, lists, again, passes_given, WasCancelled, IsTrueOf, AreTrueOf, due_mark, IsNextMatch, MayRemove, own-mine, own_made, owes_in-own}
use Rattle.irp_core.specs.declared.inside.Inside.TheVariants.{Nothing, Removing}
use Rattle.csq_words.specs.declared.views.Event.TheVariants as event
use Rattle.csq_words.proofs.Facts.{off, due_more, given_hit, given_miss, given_out, bit_true, owed_listed, listed_taken, listed_now, again_disarm}
use Rattle.csq_words.proofs.Truths.{true_stays, truths_stay}
use Rattle.csq_words.proofs.Changes.{present_is, disarm_words, end_words, out_words, stored_else, status_routine}
use Rattle.csq_words.proofs.Entries.{has_entry-marking, has_entry-without}
use Rattle.csq_words.proofs.Marking.{one_marked, marked_else}
use Rattle.csq_words.proofs.SeatSteps.{reuse_more}
use Rattle.csq_words.proofs.CallSteps.{Sees, IsMade}
use Rattle.csq_words.proofs.InsertSteps.{listed_miss, listed_hit}

-- a removal is no insert and no put-back
removal_flight : (s : Inside) (j : IrpLife) → follows s End ≡ true → (lists s j ≡ false) × (inserts s j ≡ false) × (again s j ≡ false)
removal_flight Nothing j h = (refl, refl, refl)
removal_flight Removing j h = (refl, refl, refl)
removal_flight s j h = off h

removal_after : (s : Inside) (j : IrpLife) → follows s End ≡ true → (lists (after_disarm s 0) j ≡ false) × (inserts (after_disarm s 0) j ≡ false)
removal_after Nothing j h = (refl, refl)
removal_after Removing j h = (refl, refl)
removal_after s j h = off h

removal_ended : (s : Inside) (j : IrpLife) → follows s End ≡ true → (lists (after_disarm s 1) j ≡ false) × (inserts (after_disarm s 1) j ≡ false)
removal_ended Nothing j h = (refl, refl)
removal_ended Removing j h = (refl, refl)
removal_ended s j h = off h

-- a removal's Disarm isn't that of an insert
removal_no_insert : (s : Inside) → follows s End ≡ true → in_insert s ≡ false
removal_no_insert Nothing h = refl
removal_no_insert Removing h = refl
removal_no_insert s h = off h

-- the event takes i out of the list, and says that its pass got it by a removal
pub record TakesOut (i : IrpLife) (e : Event) : Type 0 where
  pub taken : (q : QueueState) → after_event q e ≡ record q { entries = without i q.entries }
  pub says : (run : List Made) (u : QueueState) (p : PassId) → was_removed_in (own p run) i ≡ true → IsTrueOf run u p e
  pub gives_out : (first : ℕ) (p : PassId) (history : List HistoryEntry) (j : IrpLife) → given_to first j (record { pass = p; event = e } ∷ history) ≡ cond (same_irp i j) (p ∷ given_to first j history) (given_to first j history)
  pub no_put_back : (j : IrpLife) → puts_back j e ≡ false

-- the event leaves the queue as it is
pub record Leaves (e : Event) : Type 0 where
  pub left : (q : QueueState) → after_event q e ≡ q
  pub plain : (run : List Made) (u : QueueState) (p : PassId) → IsTrueOf run u p e
  pub gives_none : (first : ℕ) (p : PassId) (history : List HistoryEntry) (j : IrpLife) → given_to first j (record { pass = p; event = e } ∷ history) ≡ given_to first j history
  pub no_put_back : (j : IrpLife) → puts_back j e ≡ false

-- the next match is listed
pub next_listed : (k : Peek) (es : List Queued) (i : IrpLife) → IsNextMatch k es i → has_entry es i ≡ true
next_listed k es i h = subst (λ l. has_entry l i ≡ true) (sym h.parts) (among h.before)
  where
    among : (before : List Queued) → has_entry (before ++ h.entry ∷ h.after) i ≡ true
    among [] = rw (h.irp_is, same_irp-refl) refl
    among (e ∷ before) = or_right (same_irp e.irp i) _ (among before)

pub listed_out : (p : PassId) (i j : IrpLife) (run : List Made) → listed (record { pass = p; kind = Out i; found = 0 } ∷ run) j ≡ (not (same_irp i j) && listed run j)
listed_out p i j run = by_value (λ b. listed (record { pass = p; kind = Out i; found = 0 } ∷ run) j ≡ (not b && listed run j)) (same_irp i j)
    (λ e. rw e (and-false (was_armed run j)))
    (λ e. rw e refl)

module _ (size : Size) (words : List ℕ) (run : List Made) (q : QueueRecord) (r : PassRecord) (x : Sees size words run q r) where
  module _ (removes : MayRemove r) where
    pub entries_are : (j : IrpLife) → has_entry (queue_of q).entries j ≡ listed run j
    entries_are j = x.history_is.listed_is j ∙ ap (λ b. not b && listed run j) (removal_flight (inside_of r.steps) j removes).0

    used_are : (j : IrpLife) → has_irp (queue_of q).used j ≡ was_armed run j
    used_are j = x.history_is.used_is j ∙ ap (λ b. not b && was_armed run j) (removal_flight (inside_of r.steps) j removes).1

    given_are : (j : IrpLife) → given_to q.first j q.history ≡ passes_given run j
    given_are j = x.history_is.given_is j (removal_flight (inside_of r.steps) j removes).2

    module _ (i : IrpLife) (inside' : number i < size.irps) (there : has_entry (queue_of q).entries i ≡ true) where
      listed_i : listed run i ≡ true
      listed_i = sym (entries_are i) ∙ there

      here : present size.first run i.irp ≡ i
      here = present_is size.first run i (listed_now size run x.history_is.is_run i listed_i)

      disarm_run : (n : ℕ) → n ≡ found_by run (Disarm i) → IsRun size (record { pass = r.pass; kind = Disarm i; found = n } ∷ run)
      disarm_run n is = subst (λ v. IsRun size (record { pass = r.pass; kind = Disarm i; found = v } ∷ run)) (sym is)
          (grows_by_removal_disarm size run x.history_is.is_run r.pass x.from x.to i inside' (rw (← x.same) removes) x.free listed_i)

      -- the removal finds the routine taken: the IRP is marked, if it isn't yet
      pub miss_made : 0 ≡ found_by run (Disarm i) → IsMade size words (set words (routine_at i.irp) (bit_word (life_of i) 0)) run q r (Disarm i) 0 (due_mark i (queue_of q)) q.reusing
      miss_made is = by_value (λ b. IsMade size words (set words (routine_at i.irp) (bit_word (life_of i) 0)) run q r (Disarm i) 0 (cond b (Mark i ∷ []) []) q.reusing) (has_unmarked (queue_of q).entries i)
          (λ e. made (Mark i ∷ []) (λ j. has_entry-marking i (queue_of q).entries j) (λ j. refl) (λ l. refl)
          (true_stays size _ run (disarm_run 0 is) (queue_of q) r.pass (Mark i) (listed_taken size run x.history_is.is_run i listed_i (sym is)), stay)
          (e, x.history_is.orderly) (λ j. refl) ((λ j n. off n), x.history_is.owners))
          (λ _. made [] (λ j. refl) (λ j. refl) (λ l. refl) stay x.history_is.orderly (λ j. refl) x.history_is.owners)
        where
          made : (es : List Event) → ((j : IrpLife) → has_entry (end_of q.first (entries_of r.pass es ++ q.history)).entries j ≡ has_entry (queue_of q).entries j)
              → ((j : IrpLife) → has_irp (end_of q.first (entries_of r.pass es ++ q.history)).used j ≡ has_irp (queue_of q).used j)
              → ((l : IrpId) → (end_of q.first (entries_of r.pass es ++ q.history)).lives l ≡ (queue_of q).lives l)
              → AreTrueOf q.first (record { pass = r.pass; kind = Disarm i; found = 0 } ∷ run) (entries_of r.pass es ++ q.history)
              → IsOrderly q.first (entries_of r.pass es ++ q.history)
              → ((j : IrpLife) → given_to q.first j (entries_of r.pass es ++ q.history) ≡ given_to q.first j q.history)
              → OwnersPutBack q.first (entries_of r.pass es ++ q.history)
              → IsMade size words (set words (routine_at i.irp) (bit_word (life_of i) 0)) run q r (Disarm i) 0 es q.reusing
          made es listed' used' lives' true' orderly' given' owners' = let wide = x.wide in record {
            wide = length-set words (routine_at i.irp) (bit_word (life_of i) 0);
            is_run = disarm_run 0 is;
            words_are = λ j l. disarm_words size.first words run q.reusing r.pass i 0 j (x.words_are j l) 0 (omega arith) here refl;
            reuse_is = reuse_more size (record { pass = r.pass; kind = Disarm i; found = 0 }) run (λ l. refl) q.reusing x.reuse_is;
            lives_are = λ l. lives' l ∙ x.history_is.lives_are l;
            inert = λ is. refl;
            stored = λ cs h. stored_else words (routine_at i.irp) (bit_word (life_of i) 0) cs (λ j. status_routine j i.irp) h;
            listed_is = λ j. listed' j ∙ (entries_are j ∙ (sym (listed_miss r.pass i j run) ∙ ap (λ b. not b && listed (record { pass = r.pass; kind = Disarm i; found = 0 } ∷ run) j) (sym (removal_after (inside_of r.steps) j removes).0)));
            used_is = λ j. used' j ∙ (used_are j ∙ ap (λ b. not b && was_armed run j) (sym (removal_after (inside_of r.steps) j removes).1));
            true_of = true';
            orderly = orderly';
            given_is = λ j n. given' j ∙ (given_are j ∙ given_miss r.pass i j run);
            putting_back = λ j n. off (sym (again_disarm (inside_of r.steps) 0 j) ∙ n);
            owners = owners';
            due = due_more (record { pass = r.pass; kind = Disarm i; found = 0 }) r.steps r.completed (λ j. refl);
          }

          stay : AreTrueOf q.first (record { pass = r.pass; kind = Disarm i; found = 0 } ∷ run) q.history
          stay = truths_stay size _ run (disarm_run 0 is) q.first q.history x.history_is.true_of

      removed_now : was_removed_in (own r.pass (record { pass = r.pass; kind = Disarm i; found = 1 } ∷ run)) i ≡ true
      removed_now = ap (λ s. was_removed_in s i) (own-mine r.pass _ run refl) ∙ rw (same_irp-refl i, ap in_insert (ap inside_of (sym x.steps_is)) ∙ removal_no_insert (inside_of r.steps) removes) refl

      -- the removal finds the routine: the IRP is its
      pub hit_made : 1 ≡ found_by run (Disarm i) → (e : Event) → TakesOut i e → MayStand (queue_of q) e → IsMade size words (set words (routine_at i.irp) (bit_word (life_of i) 0)) run q r (Disarm i) 1 (e ∷ []) q.reusing
      hit_made is e t stands = let wide = x.wide in record {
        wide = length-set words (routine_at i.irp) (bit_word (life_of i) 0);
        is_run = disarm_run 1 is;
        words_are = λ j l. disarm_words size.first words run q.reusing r.pass i 1 j (x.words_are j l) 0 (omega arith) here refl;
        reuse_is = reuse_more size (record { pass = r.pass; kind = Disarm i; found = 1 }) run (λ l. refl) q.reusing x.reuse_is;
        lives_are = λ l. ap (λ (u : QueueState). u.lives l) (t.taken (queue_of q)) ∙ x.history_is.lives_are l;
        inert = λ is. refl;
        stored = λ cs h. stored_else words (routine_at i.irp) (bit_word (life_of i) 0) cs (λ j. status_routine j i.irp) h;
        listed_is = λ j. ap (λ (u : QueueState). has_entry u.entries j) (t.taken (queue_of q)) ∙ (has_entry-without i (queue_of q).entries j
            ∙ (ap (λ b. not (same_irp i j) && b) (entries_are j) ∙ (sym (listed_hit r.pass i j run) ∙ ap (λ b. not b && listed (record { pass = r.pass; kind = Disarm i; found = 1 } ∷ run) j) (sym (removal_ended (inside_of r.steps) j removes).0))));
        used_is = λ j. ap (λ (u : QueueState). has_irp u.used j) (t.taken (queue_of q)) ∙ (used_are j ∙ ap (λ b. not b && was_armed run j) (sym (removal_ended (inside_of r.steps) j removes).1));
        true_of = (t.says (record { pass = r.pass; kind = Disarm i; found = 1 } ∷ run) (queue_of q) r.pass removed_now, truths_stay size _ run (disarm_run 1 is) q.first q.history x.history_is.true_of);
        orderly = (stands, x.history_is.orderly);
        given_is = λ j n. t.gives_out q.first r.pass q.history j ∙ (ap (λ l. cond (same_irp i j) (r.pass ∷ l) l) (given_are j) ∙ given_hit size run x.history_is.is_run r.pass i (bit_true (armed run i) 1 is (omega arith)) j);
        putting_back = λ j n. off (sym (again_disarm (inside_of r.steps) 1 j) ∙ n);
        owners = ((λ j n. off (sym (t.no_put_back j) ∙ n)), x.history_is.owners);
        due = due_more (record { pass = r.pass; kind = Disarm i; found = 1 }) r.steps r.completed (λ j. refl);
      }

    -- the removal ends with none
    pub end_made : (e : Event) → Leaves e → MayStand (queue_of q) e → IsMade size words words run q r End 0 (e ∷ []) q.reusing
    end_made e l stands =
        let is_run = grows_by_end size run x.history_is.is_run r.pass x.from x.to (rw (← x.same) removes) x.free in record {
          wide = refl;
          is_run = is_run;
          words_are = λ j l. end_words size.first words run q.reusing r.pass (present size.first run j) 0 j (x.words_are j l);
          reuse_is = reuse_more size (record { pass = r.pass; kind = End; found = 0 }) run (λ l. refl) q.reusing x.reuse_is;
          lives_are = λ m. ap (λ (u : QueueState). u.lives m) (l.left (queue_of q)) ∙ x.history_is.lives_are m;
          inert = λ is. refl;
          stored = λ cs h. h;
          listed_is = λ j. ap (λ (u : QueueState). has_entry u.entries j) (l.left (queue_of q)) ∙ entries_are j;
          used_is = λ j. ap (λ (u : QueueState). has_irp u.used j) (l.left (queue_of q)) ∙ used_are j;
          true_of = (l.plain (record { pass = r.pass; kind = End; found = 0 } ∷ run) (queue_of q) r.pass, truths_stay size _ run is_run q.first q.history x.history_is.true_of);
          orderly = (stands, x.history_is.orderly);
          given_is = λ j n. l.gives_none q.first r.pass q.history j ∙ given_are j;
          putting_back = λ j n. off n;
          owners = ((λ j n. off (sym (l.no_put_back j) ∙ n)), x.history_is.owners);
          due = due_more (record { pass = r.pass; kind = End; found = 0 }) r.steps r.completed (λ j. refl);
        }

  module _ (i : IrpLife) (inside' : number i < size.irps) (outside : inside_of r.steps ≡ Nothing) (owed : owes_in r.steps i ≡ true) where
    removing : MayRemove r
    removing = rw outside refl

    owed_run : owes run r.pass i ≡ true
    owed_run = sym (ap (λ t. owes_in t i) x.steps_is ∙ owes_in-own r.pass i run) ∙ owed

    out_run : IsRun size (record { pass = r.pass; kind = Out i; found = 0 } ∷ run)
    out_run = grows_by_out size run x.history_is.is_run r.pass x.from x.to i inside' (sym x.same ∙ outside) x.free owed_run

    -- what the cancel routine takes out is in the list
    pub out_listed : has_entry (queue_of q).entries i ≡ true
    out_listed = entries_are removing i ∙ (owed_listed size run x.history_is.is_run i r.pass owed_run).1

    -- the cancel routine takes the IRP out, which is marked, if it isn't yet
    pub out_made : IsMade size words words run q r (Out i) 0 (event.Out i ∷ due_mark i (queue_of q)) q.reusing
    out_made = by_value (λ b. IsMade size words words run q r (Out i) 0 (event.Out i ∷ cond b (Mark i ∷ []) []) q.reusing) (has_unmarked (queue_of q).entries i)
        (λ e. made (Mark i ∷ []) (λ j. has_entry-without i (marking i (queue_of q).entries) j ∙ ap (λ b. not (same_irp i j) && b) (has_entry-marking i (queue_of q).entries j)) (λ j. refl) (λ l. refl)
        (true_stays size _ run out_run (queue_of q) r.pass (Mark i) facts.3, stay)
        (one_marked i (queue_of q).entries out_listed, (e, x.history_is.orderly)) (λ j. refl) ((λ j n. off n), x.history_is.owners))
        (λ e. made [] (λ j. has_entry-without i (queue_of q).entries j) (λ j. refl) (λ l. refl) stay (marked_else i (queue_of q).entries out_listed e, x.history_is.orderly) (λ j. refl) x.history_is.owners)
      where
        facts : (was_armed run i ≡ true) × (listed run i ≡ true) × (removed run i ≡ false) × (taken run i ≡ true)
        facts = owed_listed size run x.history_is.is_run i r.pass owed_run

        was_cancelled : WasCancelled (record { pass = r.pass; kind = Out i; found = 0 } ∷ run) i
        was_cancelled = record {
          armed = facts.0;
          unlisted = listed_out r.pass i i run ∙ ap (λ b. not b && listed run i) (same_irp-refl i);
          not_removed = facts.2;
        }

        made : (es : List Event) → ((j : IrpLife) → has_entry (end_of q.first (entries_of r.pass (event.Out i ∷ es) ++ q.history)).entries j ≡ (not (same_irp i j) && has_entry (queue_of q).entries j))
            → ((j : IrpLife) → has_irp (end_of q.first (entries_of r.pass es ++ q.history)).used j ≡ has_irp (queue_of q).used j)
            → ((l : IrpId) → (end_of q.first (entries_of r.pass es ++ q.history)).lives l ≡ (queue_of q).lives l)
            → AreTrueOf q.first (record { pass = r.pass; kind = Out i; found = 0 } ∷ run) (entries_of r.pass es ++ q.history)
            → IsOrderly q.first (entries_of r.pass (event.Out i ∷ es) ++ q.history)
            → ((j : IrpLife) → given_to q.first j (entries_of r.pass es ++ q.history) ≡ given_to q.first j q.history)
            → OwnersPutBack q.first (entries_of r.pass es ++ q.history)
            → IsMade size words words run q r (Out i) 0 (event.Out i ∷ es) q.reusing
        made es listed' used' lives' true' orderly' given' owners' = record {
          wide = refl;
          is_run = out_run;
          words_are = λ j l. out_words size.first words run q.reusing r.pass i 0 j (x.words_are j l);
          reuse_is = reuse_more size (record { pass = r.pass; kind = Out i; found = 0 }) run (λ l. refl) q.reusing x.reuse_is;
          lives_are = λ l. lives' l ∙ x.history_is.lives_are l;
          inert = λ is. refl;
          stored = λ cs h. h;
          listed_is = λ j. listed' j ∙ (ap (λ b. not (same_irp i j) && b) (entries_are removing j) ∙ sym (listed_out r.pass i j run));
          used_is = λ j. used' j ∙ used_are removing j;
          true_of = (record { out = own_made r.pass _ run refl (is (Out i)) (same_irp-refl i); cancelled = was_cancelled }, true');
          orderly = orderly';
          given_is = λ j n. ap (λ l. cond (same_irp i j) (r.pass ∷ l) l) (given' j ∙ given_are removing j) ∙ given_out size run x.history_is.is_run r.pass i owed_run j;
          putting_back = λ j n. off n;
          owners = ((λ j n. off n), owners');
          due = due_more (record { pass = r.pass; kind = Out i; found = 0 }) r.steps r.completed (λ j. refl);
        }

        stay : AreTrueOf q.first (record { pass = r.pass; kind = Out i; found = 0 } ∷ run) q.history
        stay = truths_stay size _ run out_run q.first q.history x.history_is.true_of
