-- The steps of a put-back: rearm, test, disarm.
use Rattle.std.proofs.Common.{◌≡◌, ℕ, zero, suc, ◌<◌, true, false, cond, not, ◌&&◌, ◌||◌, List, [], ◌∷◌, map, set, refl, sym, ap, ◌∙◌, subst, arith, length-set}
use Rattle.csq_words.proofs.Imports.{by_value, and-false, and_parts, and_from, or_right, false_from_ne_true, inside_of, holds_in, removed_in, FileId, Test, Disarm, Rearm, Made, number, life_of, same_irp, is, found_one, own, IrpLife, IsPresent, bit, armed, flagged, was_armed, found_by, inside, owes, holds, has_gone, listed, removed, holds_removed, Size, IsRun, same_irp-refl, same_irp-eq, own_made, own_stays, holds_in-own, removed_in-own, inserted_listed, grows_by_rearm, grows_by_test_again, grows_by_disarm_again, Place, put_at, Pending, Completion, PassRecord, QueueRecord, has_entry, has_irp, new_entry, IsGone, given_to, queue_of, routine_at, bit_word, WasCancelled, is_done, was_put_back, inserts, lists, again, passes_given, recorded, present}
use Rattle.irp_core.specs.declared.inside.Inside.TheVariants.{Nothing, Rearmed, FlagSeenAgain}
use Rattle.csq_words.specs.declared.calls.Call.TheVariants.{PutBack}
use Rattle.csq_words.specs.declared.views.Event.TheVariants as event
use Rattle.csq_words.proofs.Facts.{off, due_more, due_rearm, given_miss, given_hit, held_gone, here_not_gone, undone_own, completed_in_done, open_now, open_undone, set_listed, listed_now, listed_taken, flag_seen_again, rearmed_own, seen_again_own, bit_true, bit_bound, again_disarm, held_given}
use Rattle.csq_words.proofs.Named.{by_irp, same_irp-is}
use Rattle.csq_words.proofs.Truths.{true_stays, truths_stay}
use Rattle.csq_words.proofs.Changes.{present_is, rearm_words, disarm_words, test_words, stored_else, status_routine}
use Rattle.csq_words.proofs.Entries.{has_entry-placed, has_entry-marking}
use Rattle.csq_words.proofs.Marking.{placed_unmarked}
use Rattle.csq_words.proofs.SeatSteps.{reuse_more}
use Rattle.csq_words.proofs.CallSteps.{Sees, IsMade}
use Rattle.csq_words.proofs.InsertSteps.{joins, listed_miss, listed_hit}

module _ (size : Size) (words : List ℕ) (run : List Made) (q : QueueRecord) (r : PassRecord) (x : Sees size words run q r) (i : IrpLife) (f : FileId) (place : Place) (inside' : number i < size.irps) where
  is_run : IsRun size run
  is_run = x.history_is.is_run

  module _ (outside : inside_of r.steps ≡ Nothing) (held : holds_in r.steps i ≡ true) (got : removed_in r.steps i ≡ true) where
    held_run : holds run r.pass i ≡ true
    held_run = sym (ap (λ t. holds_in t i) x.steps_is ∙ holds_in-own r.pass i run) ∙ held

    back : holds_removed run r.pass i ≡ true
    back = and_from (holds run r.pass i) (removed run i) held_run (removed_in-own size r.pass i run is_run (subst (λ t. removed_in t i ≡ true) x.steps_is got))

    open' : (owes run r.pass i || holds run r.pass i) ≡ true
    open' = or_right (owes run r.pass i) (holds run r.pass i) held_run

    pub back_now : IsPresent size.first run i × (is_done run i ≡ false)
    back_now = (open_now size run is_run i r.pass open', open_undone size run is_run i r.pass open')

    -- it isn't listed, and has no routine
    pub gone : (armed run i ≡ false) × (listed run i ≡ false) × (was_armed run i ≡ true)
    gone = held_gone size run is_run i r.pass held_run

    pub rearm_finds : found_by run (Rearm i) ≡ 0
    rearm_finds = ap bit gone.0

    not_completed : has_irp (map (λ (c : Completion). c.irp) r.completed) i ≡ false
    not_completed = false_from_ne_true _ (λ h. off (sym (undone_own size run is_run i r.pass held_run) ∙ (sym (ap (λ t. is_done t i) x.steps_is) ∙ completed_in_done r.steps i (sym (ap (λ l. has_irp l i) x.completed_is) ∙ h))))

    -- the pass sets the routine of what it holds again
    pub rearm_made : (v : ℕ) → v ≡ found_by run (Rearm i) → IsMade size words (set words (routine_at i.irp) (bit_word (life_of i) 1)) run q r (Rearm i) v (recorded (PutBack i f place) (Rearm i) v (queue_of q)) q.reusing
    rearm_made v is =
        let m : Made = record { pass = r.pass; kind = Rearm i; found = v } in
        let longer : IsRun size (m ∷ run) = subst (λ y. IsRun size (record { pass = r.pass; kind = Rearm i; found = y } ∷ run)) (sym is) (grows_by_rearm size run is_run r.pass x.from x.to i inside' (sym x.same ∙ outside) x.free back) in
        let wide = x.wide in record {
          wide = length-set words (routine_at i.irp) (bit_word (life_of i) 1);
          is_run = longer;
          words_are = λ j l. rearm_words size.first words run q.reusing r.pass i v j (x.words_are j l) 1 (omega arith) (present_is size.first run i back_now.0) refl back_now.1 gone.2;
          reuse_is = reuse_more size m run (λ l. refl) q.reusing x.reuse_is;
          inert = λ is. refl;
          stored = λ cs h. stored_else words (routine_at i.irp) (bit_word (life_of i) 1) cs (λ j. status_routine j i.irp) h;
          listed_is = λ j. x.history_is.listed_is j ∙ (ap (λ s. not (lists s j) && listed run j) outside ∙ by_irp _ i j
              (λ e. rw (same_irp-is i j e) (ap (listed run) (sym e) ∙ gone.1))
              (λ ne. rw ne refl));
          used_is = λ j. x.history_is.used_is j ∙ ap (λ s. not (inserts s j) && was_armed run j) outside;
          lives_are = x.history_is.lives_are;
          true_of = truths_stay size m run longer q.first q.history x.history_is.true_of;
          orderly = x.history_is.orderly;
          given_is = λ j n. x.history_is.given_is j (ap (λ s. again s j) outside) ∙ rw n refl;
          putting_back = λ j n. x.history_is.given_is j (ap (λ s. again s j) outside) ∙ (ap (passes_given run) (sym (same_irp-eq i j n)) ∙ held_given size run is_run i r.pass held_run);
          owners = x.history_is.owners;
          due = due_rearm m i r.steps r.completed (λ j ne. ne) not_completed;
        }

  -- what is said of the IRP of a put-back in flight
  module _ (flight : (j : IrpLife) → (lists (inside_of r.steps) j ≡ same_irp i j) × (inserts (inside_of r.steps) j ≡ false) × (again (inside_of r.steps) j ≡ same_irp i j)) (is_listed : listed run i ≡ true) where
    entries_are : (j : IrpLife) → has_entry (queue_of q).entries j ≡ (not (same_irp i j) && listed run j)
    entries_are j = x.history_is.listed_is j ∙ ap (λ b. not b && listed run j) (flight j).0

    used_are : (j : IrpLife) → has_irp (queue_of q).used j ≡ was_armed run j
    used_are j = x.history_is.used_is j ∙ ap (λ b. not b && was_armed run j) (flight j).1

    -- it is used, not listed, and present
    is_gone : IsGone (queue_of q) i
    is_gone = (
      used_are i ∙ (and_parts (was_armed run i) (not (has_gone run i)) is_listed).0,
      entries_are i ∙ ap (λ b. not b && listed run i) (same_irp-refl i),
      listed_now size run is_run i is_listed ∙ sym (x.history_is.lives_are i.irp),
    )

    placed_now : (j : IrpLife) → has_entry (put_at place (new_entry i f) (queue_of q).entries) j ≡ listed run j
    placed_now j = has_entry-placed place (new_entry i f) (queue_of q).entries j ∙ joins i j _ (listed run j) (λ e. ap (listed run) (sym e) ∙ is_listed) (entries_are j)

    -- whoever puts it back was given it
    given_mine : (j : IrpLife) → same_irp i j ≡ true → given_to q.first j q.history ≡ r.pass ∷ []
    given_mine j e = x.history_is.putting_back r.pass j (ap (λ s. again s j) (sym x.same) ∙ ((flight j).2 ∙ e))

    -- whom it was given to before has it no more
    given_now : (j : IrpLife) → cond (same_irp i j) [] (given_to q.first j q.history) ≡ passes_given run j
    given_now j = by_value (λ b. cond b [] (given_to q.first j q.history) ≡ passes_given run j) (same_irp i j)
        (λ e. let none : has_gone run i ≡ false = here_not_gone (was_armed run i) (has_gone run i) is_listed in rw (ap (has_gone run) (sym (same_irp-eq i j e)) ∙ none) refl)
        (λ e. x.history_is.given_is j ((flight j).2 ∙ e))

  module _ (after_rearm : inside_of r.steps ≡ Rearmed i) where
    flight_of_rearm : (j : IrpLife) → (lists (inside_of r.steps) j ≡ same_irp i j) × (inserts (inside_of r.steps) j ≡ false) × (again (inside_of r.steps) j ≡ same_irp i j)
    flight_of_rearm j = (ap (λ s. lists s j) after_rearm, ap (λ s. inserts s j) after_rearm, ap (λ s. again s j) after_rearm)

    pub listed_of_rearm : listed run i ≡ true
    listed_of_rearm = inserted_listed size run is_run r.pass i (rw (← x.same, after_rearm) (same_irp-refl i))

    test_run : (v : ℕ) → v ≡ found_by run (Test i) → IsRun size (record { pass = r.pass; kind = Test i; found = v } ∷ run)
    test_run v is = subst (λ y. IsRun size (record { pass = r.pass; kind = Test i; found = y } ∷ run)) (sym is) (grows_by_test_again size run is_run r.pass x.from x.to i inside' (sym x.same ∙ after_rearm))

    -- the pass tests the flag of what it put back
    pub test_again_made : (v : ℕ) → v ≡ found_by run (Test i) → IsMade size words words run q r (Test i) v (recorded (PutBack i f place) (Test i) v (queue_of q)) q.reusing
    test_again_made zero is = record {
      wide = refl;
      is_run = test_run 0 is;
      words_are = λ j l. test_words size.first words run q.reusing r.pass i 0 j (x.words_are j l);
      reuse_is = reuse_more size (record { pass = r.pass; kind = Test i; found = 0 }) run (λ l. refl) q.reusing x.reuse_is;
      lives_are = x.history_is.lives_are;
      inert = λ is. refl;
      stored = λ cs h. h;
      listed_is = λ j. rw after_rearm (placed_now flight_of_rearm listed_of_rearm j);
      used_is = λ j. rw after_rearm (used_are flight_of_rearm listed_of_rearm j);
      true_of = (true_stays size _ run (test_run 0 is) (queue_of q) r.pass (event.PutBack i f place Pending) (rearmed_own run r.pass i (sym x.same ∙ after_rearm)), truths_stay size _ run (test_run 0 is) q.first q.history x.history_is.true_of);
      orderly = (is_gone flight_of_rearm listed_of_rearm, x.history_is.orderly);
      given_is = λ j n. given_now flight_of_rearm listed_of_rearm j;
      putting_back = λ j n. off (rw after_rearm at n);
      owners = (given_mine flight_of_rearm listed_of_rearm, x.history_is.owners);
      due = due_more (record { pass = r.pass; kind = Test i; found = 0 }) r.steps r.completed (λ j. refl);
    }
    test_again_made (suc zero) is = record {
      wide = refl;
      is_run = test_run 1 is;
      words_are = λ j l. test_words size.first words run q.reusing r.pass i 1 j (x.words_are j l);
      reuse_is = reuse_more size (record { pass = r.pass; kind = Test i; found = 1 }) run (λ l. refl) q.reusing x.reuse_is;
      lives_are = x.history_is.lives_are;
      inert = λ is. refl;
      stored = λ cs h. h;
      listed_is = λ j. rw after_rearm (entries_are flight_of_rearm listed_of_rearm j);
      used_is = λ j. rw after_rearm (used_are flight_of_rearm listed_of_rearm j);
      true_of = truths_stay size _ run (test_run 1 is) q.first q.history x.history_is.true_of;
      orderly = x.history_is.orderly;
      given_is = λ j n. x.history_is.given_is j (ap (λ s. again s j) after_rearm ∙ (rw after_rearm at n));
      putting_back = λ j n. given_mine flight_of_rearm listed_of_rearm j (rw after_rearm at n);
      owners = x.history_is.owners;
      due = due_more (record { pass = r.pass; kind = Test i; found = 1 }) r.steps r.completed (λ j. refl);
    }
    test_again_made (suc (suc v)) is = let b = bit_bound (flagged run i) in absurd (omega arith)

  module _ (seen : inside_of r.steps ≡ FlagSeenAgain i) where
    flight_of_seen : (j : IrpLife) → (lists (inside_of r.steps) j ≡ same_irp i j) × (inserts (inside_of r.steps) j ≡ false) × (again (inside_of r.steps) j ≡ same_irp i j)
    flight_of_seen j = (ap (λ s. lists s j) seen, ap (λ s. inserts s j) seen, ap (λ s. again s j) seen)

    run_seen : inside run r.pass ≡ FlagSeenAgain i
    run_seen = sym x.same ∙ seen

    pub listed_of_seen : listed run i ≡ true
    listed_of_seen = inserted_listed size run is_run r.pass i (rw run_seen (same_irp-refl i))

    put_back_stays : (m : Made) → m.pass ≡ r.pass → was_put_back (own r.pass (m ∷ run)) i ≡ true
    put_back_stays m mine = own_stays r.pass m run mine (is (Rearm i)) (seen_again_own size run is_run r.pass i run_seen)

    here : present size.first run i.irp ≡ i
    here = present_is size.first run i (listed_now size run is_run i listed_of_seen)

    disarm_run : (v : ℕ) → v ≡ found_by run (Disarm i) → IsRun size (record { pass = r.pass; kind = Disarm i; found = v } ∷ run)
    disarm_run v is = subst (λ y. IsRun size (record { pass = r.pass; kind = Disarm i; found = y } ∷ run)) (sym is) (grows_by_disarm_again size run is_run r.pass x.from x.to i inside' run_seen)

    -- the pass exchanges the routine that it set again for none
    pub disarm_again_made : (v : ℕ) → v ≡ found_by run (Disarm i) → IsMade size words (set words (routine_at i.irp) (bit_word (life_of i) 0)) run q r (Disarm i) v (recorded (PutBack i f place) (Disarm i) v (queue_of q)) q.reusing
    disarm_again_made zero is =
        let m : Made = record { pass = r.pass; kind = Disarm i; found = 0 } in
        let longer = disarm_run 0 is in
        let wide = x.wide in record {
          wide = length-set words (routine_at i.irp) (bit_word (life_of i) 0);
          is_run = longer;
          words_are = λ j l. disarm_words size.first words run q.reusing r.pass i 0 j (x.words_are j l) 0 (omega arith) here refl;
          reuse_is = reuse_more size m run (λ l. refl) q.reusing x.reuse_is;
          lives_are = x.history_is.lives_are;
          inert = λ is. refl;
          stored = λ cs h. stored_else words (routine_at i.irp) (bit_word (life_of i) 0) cs (λ j. status_routine j i.irp) h;
          listed_is = λ j. rw seen (has_entry-marking i (put_at place (new_entry i f) (queue_of q).entries) j ∙ (placed_now flight_of_seen listed_of_seen j ∙ sym (listed_miss r.pass i j run)));
          used_is = λ j. rw seen (used_are flight_of_seen listed_of_seen j);
          true_of = (
            true_stays size m run longer (queue_of q) r.pass (event.Mark i) (listed_taken size run is_run i listed_of_seen (sym is)),
            (true_stays size m run longer (queue_of q) r.pass (event.PutBack i f place Pending) (seen_again_own size run is_run r.pass i run_seen), truths_stay size m run longer q.first q.history x.history_is.true_of),
          );
          orderly = (placed_unmarked place i f (queue_of q).entries, (is_gone flight_of_seen listed_of_seen, x.history_is.orderly));
          given_is = λ j n. given_now flight_of_seen listed_of_seen j ∙ given_miss r.pass i j run;
          putting_back = λ j n. off (sym (again_disarm (inside_of r.steps) 0 j) ∙ n);
          owners = ((λ j n. off n), (given_mine flight_of_seen listed_of_seen, x.history_is.owners));
          due = due_more (record { pass = r.pass; kind = Disarm i; found = 0 }) r.steps r.completed (λ j. refl);
        }
    disarm_again_made (suc zero) is =
        let m : Made = record { pass = r.pass; kind = Disarm i; found = 1 } in
        let longer = disarm_run 1 is in
        let armed_i = bit_true (armed run i) 1 is (omega arith) in
        let set_i = set_listed size run is_run i armed_i in
        let not_removed : removed (m ∷ run) i ≡ false = rw (run_seen, and-false (found_one (Disarm i) m)) set_i.2 in
        let unlisted : listed (m ∷ run) i ≡ false = listed_hit r.pass i i run ∙ ap (λ b. not b && listed run i) (same_irp-refl i) in
        let cancelled : WasCancelled (m ∷ run) i = record { armed = set_i.0; unlisted = unlisted; not_removed = not_removed } in
        let wide = x.wide in record {
          wide = length-set words (routine_at i.irp) (bit_word (life_of i) 0);
          is_run = longer;
          words_are = λ j l. disarm_words size.first words run q.reusing r.pass i 1 j (x.words_are j l) 0 (omega arith) here refl;
          reuse_is = reuse_more size m run (λ l. refl) q.reusing x.reuse_is;
          lives_are = x.history_is.lives_are;
          inert = λ is. refl;
          stored = λ cs h. stored_else words (routine_at i.irp) (bit_word (life_of i) 0) cs (λ j. status_routine j i.irp) h;
          listed_is = λ j. rw seen (entries_are flight_of_seen listed_of_seen j ∙ sym (listed_hit r.pass i j run));
          used_is = λ j. rw seen (used_are flight_of_seen listed_of_seen j);
          true_of = (
            record {
              rearm = put_back_stays m refl;
              disarm = own_made r.pass m run refl (found_one (Disarm i)) (rw (same_irp-refl i) refl);
              cancelled = cancelled;
            },
            ((flag_seen_again size run is_run r.pass i run_seen, cancelled), truths_stay size m run longer q.first q.history x.history_is.true_of),
          );
          orderly = ((is_gone flight_of_seen listed_of_seen, ap (λ b. b || has_irp (queue_of q).flags i) (same_irp-refl i)), (tt, x.history_is.orderly));
          given_is = λ j n. ap (λ l. cond (same_irp i j) (r.pass ∷ l) l) (given_now flight_of_seen listed_of_seen j) ∙ given_hit size run is_run r.pass i armed_i j;
          putting_back = λ j n. off (sym (again_disarm (inside_of r.steps) 1 j) ∙ n);
          owners = (given_mine flight_of_seen listed_of_seen, ((λ j n. off n), x.history_is.owners));
          due = due_more (record { pass = r.pass; kind = Disarm i; found = 1 }) r.steps r.completed (λ j. refl);
        }
    disarm_again_made (suc (suc v)) is = let b = bit_bound (armed run i) in absurd (omega arith)
