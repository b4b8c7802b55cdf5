-- Inserts: what the driver keeps in the end.
use Rattle.std.proofs.Common.{◌≡◌, ℕ, ◌<◌, Bool, true, false, List, [], ◌∷◌, Option, Some, None, refl, ap, sym, ◌∙◌, subst, arith}
use borrow.Author.Tests.{leb-false}
use Rattle.csq_replay.proofs.Imports.{slice_set, FileId, IrpId, Arm, Test, Disarm, Made, Nothing, Armed, FlagSeen, number, same_irp, IrpLife, bit, flagged, was_armed, found_by, inside, inside_after, Size, MachineState, Agrees, size_of, same_irp-refl, Place, InsertStatus, is_cause, first_cause, Listing, put_at, inserted, without_irp, filter-put_at, Queued, QueueState, Limits, plain_listing, refusal, reply_to_insert, has_irp, without, with_file, after_event, new_entry, listing-taken_back, listing-inserted, Insert, Pending, InsertRefused, Script, script_pass, script_size, present_of, next_step, doing, Calls, refuses_insert, lists, Keeping, Keeps, IsOfRun}
use Rattle.csq_list.specs.declared.refusals.InsertStatus.TheVariants.{UnknownIrp, NotHome}
use Rattle.csq_list.proofs.Causes.{no_cause}
use Rattle.csq_words.specs.declared.views.InsertReply.TheVariants as reply
use Rattle.csq_words.specs.declared.views.Event.TheVariants as event
use Rattle.csq_replay.proofs.Going.{Goes, May, starts, run_for, now_present, went, may_arm, may_test, may_disarm}
use Rattle.csq_replay.proofs.Queueing.{queue_arm, queue_test, queue_hit, unlisted, sound_lives, found_then}
use Rattle.csq_replay.proofs.Removing.{keeps_run}
use Rattle.csq_replay.proofs.Calling.{irps_are, filed_keeps}

pub zero_is : (b : Bool) (v : ℕ) → v ≡ bit b → v ≡ 0 → b ≡ false
zero_is true v is e = absurd (omega arith)
zero_is false v is e = refl

pub one_is : (b : Bool) (v : ℕ) → v ≡ bit b → (v ≡ 0 → ⊥) → b ≡ true
one_is true v is e = refl
one_is false v is e = absurd (e is)

module _ (l : Limits) (kept : Keeping) (s : Script) (k : Keeps l kept s) (n : IrpId) (f : FileId) (place : Place) where
  abbrev pub i : IrpLife
  i = present_of s n

  replies : (o : Option InsertStatus) → o ≡ first_cause kept.listing n f → (b : Bool) → flagged s.run i ≡ b → reply_to_insert o b ≡ reply_to_insert (refusal l s.queue n f) (has_irp s.queue.flags i)
  replies o is b flag =
      ap (λ x. reply_to_insert x b) (is ∙ ap (λ (x : Listing). first_cause x n f) k.listing) ∙ ap (reply_to_insert (refusal l s.queue n f)) (sym (k.queue.flags i ∙ flag))

  pub refused_keeps : (cause : InsertStatus) → Some cause ≡ first_cause kept.listing n f → (listing : Listing) → listing ≡ kept.listing
      → (t : Script) × Calls l s (Insert n f place) (InsertRefused cause) t × Keeps l (record kept { listing = listing }) t
  refused_keeps cause is listing same =
      let P : Listing → Type 0 = λ x. Keeps l (record kept { listing = x }) s in
      (s, refuses_insert n f place cause (replies (Some cause) is (flagged s.run i) refl), subst P (sym same) k)

  module _ (accepted : None ≡ first_cause kept.listing n f) where
    met : (cause : InsertStatus) → is_cause kept.listing n f cause ≡ false
    met = no_cause kept.listing n f (sym accepted)

    pub known : number i < (size_of kept.machine).irps
    known = omega (arith, leb-false kept.listing.irps n.0 (met UnknownIrp), ap (λ (x : Listing). x.irps) k.listing, ap (λ (n : Size). n.irps) k.size)

    home : was_armed s.run i ≡ false
    home = sym (k.queue.used i) ∙ sym (ap (λ (x : Listing). x.used n) k.listing) ∙ met NotHome

    E1 : List Made
    E1 = next_step s.run (Arm i)

    pub arm_may : May kept.machine (Arm i)
    arm_may = may_arm kept.machine s.run Nothing (starts l kept s k) i refl known home (now_present l kept s k n)

    module _ (m1 : MachineState) (a1 : Agrees m1 (next_step s.run (Arm i))) (same1 : size_of m1 ≡ size_of kept.machine) where
      goes1 : Goes m1 (next_step s.run (Arm i)) (Armed i)
      goes1 = went kept.machine s.run Nothing (starts l kept s k) m1 (Arm i) a1 same1

      known1 : number i < (size_of m1).irps
      known1 = omega (arith, known, ap (λ (n : Size). n.irps) same1)

      pub test_may : May m1 (Test i)
      test_may = may_test m1 (next_step s.run (Arm i)) (Armed i) goes1 i refl known1

      queue1 : IsOfRun l.first (next_step s.run (Arm i)) (after_event s.queue (event.Insert n f place reply.Pending))
      queue1 = queue_arm (script_size l) s.run (run_for l kept s k) s.queue k.queue n f place home

      module _ (m2 : MachineState) (a2 : Agrees m2 (next_step (next_step s.run (Arm i)) (Test i))) (same2 : size_of m2 ≡ size_of m1)
          (v : ℕ) (value : v ≡ found_by (next_step s.run (Arm i)) (Test i)) (listing : Listing) (is : listing ≡ inserted place (record { irp = n; file = f }) kept.listing)
          (files : List FileId) (filed : files ≡ slice_set kept.files n.0 f) where
        goes2 : Goes m2 (next_step (next_step s.run (Arm i)) (Test i)) (inside_after (Armed i) (Test i) (bit (flagged s.run i)))
        goes2 = went m1 (next_step s.run (Arm i)) (Armed i) goes1 m2 (Test i) a2 same2

        queue2 : IsOfRun l.first (next_step (next_step s.run (Arm i)) (Test i)) (after_event s.queue (event.Insert n f place reply.Pending))
        queue2 = queue_test (next_step s.run (Arm i)) (after_event s.queue (event.Insert n f place reply.Pending)) queue1 i

        listing_is : listing ≡ plain_listing l (after_event s.queue (event.Insert n f place reply.Pending))
        listing_is = is ∙ ap (inserted place (record { irp = n; file = f })) k.listing ∙ listing-inserted l s.queue n f place

        in_range : n.0 < l.irps
        in_range = omega (arith, known, irps_are l kept s k)

        pub pending_keeps : v ≡ 0 → (t : Script) × Calls l s (Insert n f place) Pending t × Keeps l (record kept { machine = m2; listing = listing; files = files }) t
        pending_keeps clear =
            let flag : flagged s.run i ≡ false = zero_is (flagged s.run i) v value clear in (
              doing (Arm i ∷ Test i ∷ []) (event.Insert n f place reply.Pending) s,
              lists n f place (replies None accepted false flag),
              keeps_run l _ _ (filed_keeps l kept s k n f in_range files filed) m2 listing (next_step (next_step s.run (Arm i)) (Test i)) (after_event s.queue (event.Insert n f place reply.Pending)) a2 (same2 ∙ same1)
                  listing_is queue2 (goes2.at ∙ ap (λ b. inside_after (Armed i) (Test i) (bit b)) flag) (λ j. refl) (λ j. refl) (λ j. refl),
            )

        module _ (set : v ≡ 0 → ⊥) where
          flag : flagged s.run i ≡ true
          flag = one_is (flagged s.run i) v value set

          at2 : inside_after (Armed i) (Test i) (bit (flagged s.run i)) ≡ FlagSeen i
          at2 = ap (λ b. inside_after (Armed i) (Test i) (bit b)) flag

          known2 : number i < (size_of m2).irps
          known2 = omega (arith, known1, ap (λ (n : Size). n.irps) same2)

          pub disarm_may : May m2 (Disarm i)
          disarm_may = may_disarm m2 (next_step (next_step s.run (Arm i)) (Test i)) _ goes2 i at2 known2

          -- the insert's own exchange finds the routine
          one_found : found_by (next_step (next_step s.run (Arm i)) (Test i)) (Disarm i) ≡ 1
          one_found = rw same_irp-refl refl

          module _ (m3 : MachineState) (a3 : Agrees m3 (next_step (next_step (next_step s.run (Arm i)) (Test i)) (Disarm i))) (same3 : size_of m3 ≡ size_of m2)
              (last : Listing) (without_i : last ≡ without_irp n listing) where
            at3 : inside (next_step (next_step (next_step s.run (Arm i)) (Test i)) (Disarm i)) script_pass ≡ Nothing
            at3 = (went m2 (next_step (next_step s.run (Arm i)) (Test i)) _ goes2 m3 (Disarm i) a3 same3).at
                ∙ ap (λ x. inside_after x (Disarm i) (found_by (next_step (next_step s.run (Arm i)) (Test i)) (Disarm i))) at2

            entries_back : without i (put_at place (new_entry i f) s.queue.entries) ≡ s.queue.entries
            entries_back = filter-put_at (λ (e : Queued). same_irp e.irp i) place (new_entry i f) s.queue.entries (same_irp-refl i) (unlisted (script_size l) s.run (run_for l kept s k) s.queue k.queue i home)

            with_these : List Queued → QueueState
            with_these es = record { entries = es; closed = s.queue.closed; used = i ∷ s.queue.used; flags = s.queue.flags; lives = s.queue.lives; file_of = with_file n f s.queue.file_of }

            queue3 : IsOfRun l.first (next_step (next_step (next_step s.run (Arm i)) (Test i)) (Disarm i)) (after_event s.queue (event.Insert n f place reply.Cancelled))
            unfolding with_these
            queue3 =
                let F : ℕ → List Made = λ n. found_then (next_step (next_step s.run (Arm i)) (Test i)) (Disarm i) n in
                let IsQueue : List Made → Type 0 = λ E. IsOfRun l.first E (with_these s.queue.entries) in
                let OfEntries : List Queued → Type 0 = λ es. IsOfRun l.first (found_then (next_step (next_step s.run (Arm i)) (Test i)) (Disarm i) 1) (with_these es) in
                subst IsQueue (ap F (sym one_found)) (subst OfEntries entries_back (queue_hit (next_step (next_step s.run (Arm i)) (Test i)) (after_event s.queue (event.Insert n f place reply.Pending)) queue2 i))

            last_is : last ≡ plain_listing l (after_event s.queue (event.Insert n f place reply.Cancelled))
            last_is = without_i ∙ ap (without_irp n) (is ∙ ap (inserted place (record { irp = n; file = f })) k.listing)
                ∙ listing-taken_back l s.queue n f place (sound_lives (script_size l) s.run (run_for l kept s k) s.queue k.queue).entries
                (unlisted (script_size l) s.run (run_for l kept s k) s.queue k.queue i home)

            pub taken_keeps : Keeps l (record kept { machine = m3; listing = last; files = files }) (doing (Arm i ∷ Test i ∷ Disarm i ∷ []) (event.Insert n f place reply.Cancelled) s)
            taken_keeps = keeps_run l _ _ (filed_keeps l kept s k n f in_range files filed) m3 last (next_step (next_step (next_step s.run (Arm i)) (Test i)) (Disarm i)) (after_event s.queue (event.Insert n f place reply.Cancelled)) a3
                (same3 ∙ same2 ∙ same1) last_is queue3 at3 (λ j. refl) (λ j. refl) (λ j. refl)

            pub cancel_reply : reply.Cancelled ≡ reply_to_insert (refusal l s.queue n f) (has_irp s.queue.flags i)
            cancel_reply = replies None accepted true flag
