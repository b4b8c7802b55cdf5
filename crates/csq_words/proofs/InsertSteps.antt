-- The steps of an insert: arm, test, and its own disarm.
use Rattle.std.proofs.Common.{◌≡◌, ℕ, zero, suc, ◌<◌, Bool, true, false, cond, not, ◌&&◌, ◌||◌, List, ◌∷◌, set, refl, sym, ap, ◌∙◌, subst, arith, length-set}
use Rattle.csq_words.proofs.Imports.{by_value, and-false, and_parts, false_from_ne_true, inside_of, FileId, PassId, Arm, Test, Disarm, Made, life_of, same_irp, is, found_one, own, IrpLife, IsPresent, IrpId, armed, flagged, found_by, was_armed, inside, listed, removed, Size, IsRun, same_irp-refl, inserted_listed, grows_by_arm, grows_by_test, grows_by_insert_disarm, Place, PassRecord, QueueRecord, present_in, has_entry, has_irp, new_entry, put_at, queue_of, routine_at, bit_word, WasCancelled, is_done, inserts, lists, again, recorded, Pending, own_made, own_stays, present}
use Rattle.irp_core.specs.declared.inside.Inside.TheVariants.{Nothing, Armed, FlagSeen}
use Rattle.csq_words.specs.declared.calls.Call.TheVariants.{Insert}
use Rattle.csq_words.specs.declared.views.Event.TheVariants as event
use Rattle.csq_words.proofs.Facts.{off, due_more, given_miss, given_hit, fresh, set_listed, done_over, listed_taken, flag_seen, armed_own, seen_own, bit_true, bit_bound, again_disarm}
use Rattle.csq_words.proofs.Named.{by_irp, same_irp-is}
use Rattle.csq_words.proofs.Truths.{true_stays, truths_stay}
use Rattle.csq_words.proofs.Changes.{present_is, arm_words, disarm_words, test_words, stored_else, status_routine}
use Rattle.csq_words.proofs.Entries.{has_entry-placed, has_entry-marking}
use Rattle.csq_words.proofs.Marking.{placed_unmarked}
use Rattle.csq_words.proofs.SeatSteps.{reuse_more}
use Rattle.csq_words.proofs.CallSteps.{Sees, IsMade}

-- a list with i in front, of which the rest leaves i out
pub joins : (i j : IrpLife) (b l : Bool) → (i ≡ j → l ≡ true) → b ≡ (not (same_irp i j) && l) → (same_irp i j || b) ≡ l
joins i j b l here e = by_irp _ i j (λ s. rw (same_irp-is i j s) (sym (here s))) (λ ne. rw (e, ne) refl)

-- what is listed after a disarm that found none, and after one that found the routine
pub listed_miss : (p : PassId) (i j : IrpLife) (run : List Made) → listed (record { pass = p; kind = Disarm i; found = 0 } ∷ run) j ≡ listed run j
listed_miss p i j run = rw (and-false (same_irp i j)) refl

pub listed_hit : (p : PassId) (i j : IrpLife) (run : List Made) → listed (record { pass = p; kind = Disarm i; found = 1 } ∷ run) j ≡ (not (same_irp i j) && listed run j)
listed_hit p i j run = by_value (λ b. listed (record { pass = p; kind = Disarm i; found = 1 } ∷ run) j ≡ (not b && listed run j)) (same_irp i j)
    (λ e. rw e (and-false (was_armed run j)))
    (λ e. rw e refl)

module _ (size : Size) (words : List ℕ) (run : List Made) (q : QueueRecord) (r : PassRecord) (x : Sees size words run q r) (n : IrpId) (f : FileId) (place : Place) (inside' : n.0 < size.irps) where
  -- the insert is of the present life
  abbrev pub i : IrpLife
  i = present_in (queue_of q) n

  now : IsPresent size.first run i
  now = x.history_is.lives_are n

  module _ (outside : inside_of r.steps ≡ Nothing) (unused : has_irp (queue_of q).used i ≡ false) where
    pub never_armed : was_armed run i ≡ false
    never_armed = sym (x.history_is.used_is i ∙ ap (λ s. not (inserts s i) && was_armed run i) outside) ∙ unused

    pub undone : is_done run i ≡ false
    undone = false_from_ne_true (is_done run i) (λ d. off (sym never_armed ∙ (done_over size run x.history_is.is_run i d).0))

    -- a pass arms an IRP that isn't used
    pub arm_made : (v : ℕ) → v ≡ found_by run (Arm i) → IsMade size words (set words (routine_at i.irp) (bit_word (life_of i) 1)) run q r (Arm i) v (recorded (Insert n f place) (Arm i) v (queue_of q)) q.reusing
    arm_made v is =
        let m : Made = record { pass = r.pass; kind = Arm i; found = v } in
        let is_run : IsRun size (m ∷ run) = subst (λ y. IsRun size (record { pass = r.pass; kind = Arm i; found = y } ∷ run)) (sym is) (grows_by_arm size run x.history_is.is_run r.pass x.from x.to i inside' (sym x.same ∙ outside) x.free never_armed now) in
        let wide = x.wide in record {
          wide = length-set words (routine_at i.irp) (bit_word (life_of i) 1);
          is_run = is_run;
          words_are = λ j l. arm_words size.first words run q.reusing r.pass i v j (x.words_are j l) 1 (omega arith) (present_is size.first run i now) refl;
          reuse_is = reuse_more size m run (λ l. refl) q.reusing x.reuse_is;
          inert = λ is. refl;
          stored = λ cs h. stored_else words (routine_at i.irp) (bit_word (life_of i) 1) cs (λ j. status_routine j i.irp) h;
          listed_is = λ j. x.history_is.listed_is j ∙ (ap (λ s. not (lists s j) && listed run j) outside ∙ by_irp _ i j
              (λ e. rw (same_irp-is i j e) (rw (← e) (fresh size run x.history_is.is_run i never_armed).1))
              (λ ne. rw ne refl));
          used_is = λ j. x.history_is.used_is j ∙ (ap (λ s. not (inserts s j) && was_armed run j) outside ∙ by_irp _ i j
              (λ e. rw (same_irp-is i j e) (rw (← e) never_armed))
              (λ ne. rw ne refl));
          lives_are = x.history_is.lives_are;
          true_of = truths_stay size m run is_run q.first q.history x.history_is.true_of;
          orderly = x.history_is.orderly;
          given_is = λ j n. x.history_is.given_is j (ap (λ s. again s j) outside);
          putting_back = λ j n. off n;
          owners = x.history_is.owners;
          due = due_more (record { pass = r.pass; kind = Arm i; found = v }) r.steps r.completed (λ j. refl);
        }

    pub arm_finds : found_by run (Arm i) ≡ 0
    arm_finds = (fresh size run x.history_is.is_run i never_armed).0

  -- what is said of the IRP of an insert in flight
  module _ (flight : (j : IrpLife) → (lists (inside_of r.steps) j ≡ same_irp i j) × (inserts (inside_of r.steps) j ≡ same_irp i j)) (is_listed : listed run i ≡ true) where
    armed_i : was_armed run i ≡ true
    armed_i = (and_parts _ _ is_listed).0

    entries_are : (j : IrpLife) → has_entry (queue_of q).entries j ≡ (not (same_irp i j) && listed run j)
    entries_are j = x.history_is.listed_is j ∙ ap (λ b. not b && listed run j) (flight j).0

    used_are : (j : IrpLife) → has_irp (queue_of q).used j ≡ (not (same_irp i j) && was_armed run j)
    used_are j = x.history_is.used_is j ∙ ap (λ b. not b && was_armed run j) (flight j).1

    -- until its insert is recorded, it isn't used
    unused_yet : has_irp (queue_of q).used i ≡ false
    unused_yet = used_are i ∙ ap (λ b. not b && was_armed run i) (same_irp-refl i)

    listed_now : (j : IrpLife) → has_entry (put_at place (new_entry i f) (queue_of q).entries) j ≡ listed run j
    listed_now j = has_entry-placed place (new_entry i f) (queue_of q).entries j ∙ joins i j _ (listed run j) (λ e. ap (listed run) (sym e) ∙ is_listed) (entries_are j)

    used_now : (j : IrpLife) → (same_irp i j || has_irp (queue_of q).used j) ≡ was_armed run j
    used_now j = joins i j _ (was_armed run j) (λ e. ap (was_armed run) (sym e) ∙ armed_i) (used_are j)

  module _ (after_arm : inside_of r.steps ≡ Armed i) where
    flight_of_arm : (j : IrpLife) → (lists (inside_of r.steps) j ≡ same_irp i j) × (inserts (inside_of r.steps) j ≡ same_irp i j)
    flight_of_arm j = (ap (λ s. lists s j) after_arm, ap (λ s. inserts s j) after_arm)

    listed_of_arm : listed run i ≡ true
    listed_of_arm = inserted_listed size run x.history_is.is_run r.pass i (rw (← x.same, after_arm) (same_irp-refl i))

    test_run : (v : ℕ) → v ≡ found_by run (Test i) → IsRun size (record { pass = r.pass; kind = Test i; found = v } ∷ run)
    test_run v is = subst (λ y. IsRun size (record { pass = r.pass; kind = Test i; found = y } ∷ run)) (sym is) (grows_by_test size run x.history_is.is_run r.pass x.from x.to i inside' (sym x.same ∙ after_arm))

    -- the pass tests the flag of the IRP that it armed
    pub test_made : (v : ℕ) → v ≡ found_by run (Test i) → IsMade size words words run q r (Test i) v (recorded (Insert n f place) (Test i) v (queue_of q)) q.reusing
    test_made zero is = record {
      wide = refl;
      is_run = test_run 0 is;
      words_are = λ j l. test_words size.first words run q.reusing r.pass i 0 j (x.words_are j l);
      reuse_is = reuse_more size (record { pass = r.pass; kind = Test i; found = 0 }) run (λ l. refl) q.reusing x.reuse_is;
      lives_are = x.history_is.lives_are;
      inert = λ is. refl;
      stored = λ cs h. h;
      listed_is = λ j. rw after_arm (listed_now flight_of_arm listed_of_arm j);
      used_is = λ j. rw after_arm (used_now flight_of_arm listed_of_arm j);
      true_of = (true_stays size _ run (test_run 0 is) (queue_of q) r.pass (event.Insert n f place Pending) (armed_own run r.pass i (sym x.same ∙ after_arm)), truths_stay size _ run (test_run 0 is) q.first q.history x.history_is.true_of);
      orderly = (unused_yet flight_of_arm listed_of_arm, x.history_is.orderly);
      given_is = λ j n. x.history_is.given_is j (ap (λ s. again s j) after_arm);
      putting_back = λ j n. off (rw after_arm at n);
      owners = ((λ j n. off n), x.history_is.owners);
      due = due_more (record { pass = r.pass; kind = Test i; found = 0 }) r.steps r.completed (λ j. refl);
    }
    test_made (suc zero) is = record {
      wide = refl;
      is_run = test_run 1 is;
      words_are = λ j l. test_words size.first words run q.reusing r.pass i 1 j (x.words_are j l);
      reuse_is = reuse_more size (record { pass = r.pass; kind = Test i; found = 1 }) run (λ l. refl) q.reusing x.reuse_is;
      lives_are = x.history_is.lives_are;
      inert = λ is. refl;
      stored = λ cs h. h;
      listed_is = λ j. rw after_arm (entries_are flight_of_arm listed_of_arm j);
      used_is = λ j. rw after_arm (used_are flight_of_arm listed_of_arm j);
      true_of = truths_stay size _ run (test_run 1 is) q.first q.history x.history_is.true_of;
      orderly = x.history_is.orderly;
      given_is = λ j n. x.history_is.given_is j (ap (λ s. again s j) after_arm);
      putting_back = λ j n. off (rw after_arm at n);
      owners = x.history_is.owners;
      due = due_more (record { pass = r.pass; kind = Test i; found = 1 }) r.steps r.completed (λ j. refl);
    }
    test_made (suc (suc v)) is = let b = bit_bound (flagged run i) in absurd (omega arith)

  module _ (seen : inside_of r.steps ≡ FlagSeen i) where
    flight_of_seen : (j : IrpLife) → (lists (inside_of r.steps) j ≡ same_irp i j) × (inserts (inside_of r.steps) j ≡ same_irp i j)
    flight_of_seen j = (ap (λ s. lists s j) seen, ap (λ s. inserts s j) seen)

    run_seen : inside run r.pass ≡ FlagSeen i
    run_seen = sym x.same ∙ seen

    listed_of_seen : listed run i ≡ true
    listed_of_seen = inserted_listed size run x.history_is.is_run r.pass i (rw run_seen (same_irp-refl i))

    armed_stays : (m : Made) → m.pass ≡ r.pass → was_armed (own r.pass (m ∷ run)) i ≡ true
    armed_stays m mine = own_stays r.pass m run mine (is (Arm i)) (seen_own size run x.history_is.is_run r.pass i run_seen)

    here : present size.first run i.irp ≡ i
    here = present_is size.first run i now

    disarm_run : (v : ℕ) → v ≡ found_by run (Disarm i) → IsRun size (record { pass = r.pass; kind = Disarm i; found = v } ∷ run)
    disarm_run v is = subst (λ y. IsRun size (record { pass = r.pass; kind = Disarm i; found = y } ∷ run)) (sym is) (grows_by_insert_disarm size run x.history_is.is_run r.pass x.from x.to i inside' run_seen)

    -- the pass exchanges the routine that it set for none
    pub disarm_made : (v : ℕ) → v ≡ found_by run (Disarm i) → IsMade size words (set words (routine_at i.irp) (bit_word (life_of i) 0)) run q r (Disarm i) v (recorded (Insert n f place) (Disarm i) v (queue_of q)) q.reusing
    disarm_made zero is =
        let m : Made = record { pass = r.pass; kind = Disarm i; found = 0 } in
        let is_run = disarm_run 0 is in
        let wide = x.wide in record {
          wide = length-set words (routine_at i.irp) (bit_word (life_of i) 0);
          is_run = is_run;
          words_are = λ j l. disarm_words size.first words run q.reusing r.pass i 0 j (x.words_are j l) 0 (omega arith) here refl;
          reuse_is = reuse_more size m run (λ l. refl) q.reusing x.reuse_is;
          lives_are = x.history_is.lives_are;
          inert = λ is. refl;
          stored = λ cs h. stored_else words (routine_at i.irp) (bit_word (life_of i) 0) cs (λ j. status_routine j i.irp) h;
          listed_is = λ j. rw seen (has_entry-marking i (put_at place (new_entry i f) (queue_of q).entries) j ∙ (listed_now flight_of_seen listed_of_seen j ∙ sym (listed_miss r.pass i j run)));
          used_is = λ j. rw seen (used_now flight_of_seen listed_of_seen j);
          true_of = (
            true_stays size m run is_run (queue_of q) r.pass (event.Mark i) (listed_taken size run x.history_is.is_run i listed_of_seen (sym is)),
            (true_stays size m run is_run (queue_of q) r.pass (event.Insert n f place Pending) (seen_own size run x.history_is.is_run r.pass i run_seen), truths_stay size m run is_run q.first q.history x.history_is.true_of),
          );
          orderly = (placed_unmarked place i f (queue_of q).entries, (unused_yet flight_of_seen listed_of_seen, x.history_is.orderly));
          given_is = λ j n. x.history_is.given_is j (ap (λ s. again s j) seen) ∙ given_miss r.pass i j run;
          putting_back = λ j n. off (sym (again_disarm (inside_of r.steps) 0 j) ∙ n);
          owners = ((λ j n. off n), ((λ j n. off n), x.history_is.owners));
          due = due_more (record { pass = r.pass; kind = Disarm i; found = 0 }) r.steps r.completed (λ j. refl);
        }
    disarm_made (suc zero) is =
        let m : Made = record { pass = r.pass; kind = Disarm i; found = 1 } in
        let is_run = disarm_run 1 is in
        let set_i = set_listed size run x.history_is.is_run i (bit_true (armed run i) 1 is (omega arith)) in
        let not_removed : removed (m ∷ run) i ≡ false = rw (run_seen, and-false (found_one (Disarm i) m)) set_i.2 in
        let unlisted : listed (m ∷ run) i ≡ false = listed_hit r.pass i i run ∙ ap (λ b. not b && listed run i) (same_irp-refl i) in
        let cancelled : WasCancelled (m ∷ run) i = record { armed = set_i.0; unlisted = unlisted; not_removed = not_removed } in
        let wide = x.wide in record {
          wide = length-set words (routine_at i.irp) (bit_word (life_of i) 0);
          is_run = is_run;
          words_are = λ j l. disarm_words size.first words run q.reusing r.pass i 1 j (x.words_are j l) 0 (omega arith) here refl;
          reuse_is = reuse_more size m run (λ l. refl) q.reusing x.reuse_is;
          lives_are = x.history_is.lives_are;
          inert = λ is. refl;
          stored = λ cs h. stored_else words (routine_at i.irp) (bit_word (life_of i) 0) cs (λ j. status_routine j i.irp) h;
          listed_is = λ j. rw seen (entries_are flight_of_seen listed_of_seen j ∙ sym (listed_hit r.pass i j run));
          used_is = λ j. rw seen (used_now flight_of_seen listed_of_seen j);
          true_of = (
            record {
              arm = armed_stays m refl;
              disarm = own_made r.pass m run refl (found_one (Disarm i)) (rw (same_irp-refl i) refl);
              cancelled = cancelled;
            },
            ((flag_seen size run x.history_is.is_run r.pass i run_seen, cancelled), truths_stay size m run is_run q.first q.history x.history_is.true_of),
          );
          orderly = ((unused_yet flight_of_seen listed_of_seen, ap (λ b. b || has_irp (queue_of q).flags i) (same_irp-refl i)), (tt, x.history_is.orderly));
          given_is = λ j n. ap (λ l. cond (same_irp i j) (r.pass ∷ l) l) (x.history_is.given_is j (ap (λ s. again s j) seen)) ∙ given_hit size run x.history_is.is_run r.pass i (bit_true (armed run i) 1 is (omega arith)) j;
          putting_back = λ j n. off (sym (again_disarm (inside_of r.steps) 1 j) ∙ n);
          owners = ((λ j n. off n), ((λ j n. off n), x.history_is.owners));
          due = due_more (record { pass = r.pass; kind = Disarm i; found = 1 }) r.steps r.completed (λ j. refl);
        }
    disarm_made (suc (suc v)) is = let b = bit_bound (armed run i) in absurd (omega arith)
