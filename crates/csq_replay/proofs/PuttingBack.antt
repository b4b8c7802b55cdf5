-- Put-backs: what the driver keeps in the end.
use Rattle.std.proofs.Common.{◌≡◌, ℕ, ◌<◌, Bool, true, false, List, [], ◌∷◌, Option, Some, None, refl, ap, sym, ◌∙◌, subst, arith}
use Rattle.csq_replay.proofs.Imports.{slice_index_or, FileId, IrpId, Rearm, Test, Disarm, Made, Nothing, Rearmed, FlagSeenAgain, number, same_irp, IrpLife, bit, flagged, was_armed, found_by, inside, inside_after, holds, listed, Size, MachineState, Agrees, size_of, same_irp-refl, Place, InsertStatus, first_cause, is_listed, Listing, put_at, inserted, renewed, without_irp, filter-put_at, Queued, QueueState, Limits, plain_listing, back_refusal, reply_to_insert, has_irp, without, after_event, new_entry, listing-relisted, listing-put_and_taken, PutBack, Pending, InsertRefused, Script, script_pass, script_size, present_of, next_step, doing, Calls, refuses_put_back, puts_back, Keeping, Keeps, HoldsRemoved, IsOfRun}
use Rattle.csq_words.specs.declared.views.InsertReply.TheVariants as reply
use Rattle.csq_words.specs.declared.views.Event.TheVariants as event
use Rattle.csq_words.specs.History.{IsGone, MayCome}
use Rattle.csq_replay.proofs.Going.{Goes, May, starts, run_for, went, may_rearm, may_test_again, may_disarm_again}
use Rattle.csq_replay.proofs.Queueing.{held_gone, queue_rearm, queue_test, queue_hit, sound_lives, found_then}
use Rattle.csq_replay.proofs.Calling.{irps_are, listed_there}
use Rattle.csq_replay.proofs.Inserting.{zero_is, one_is}
use Rattle.csq_replay.proofs.Removing.{keeps_run}

module _ (l : Limits) (kept : Keeping) (s : Script) (k : Keeps l kept s) (n : IrpId) (place : Place) (known : n.0 < (size_of kept.machine).irps)
    (held : holds s.run script_pass (present_of s n) ≡ true) where
  abbrev pub i : IrpLife
  i = present_of s n

  abbrev pub f : FileId
  f = s.queue.file_of n

  gone : (was_armed s.run i ≡ true) × (listed s.run i ≡ false)
  gone = held_gone (script_size l) s.run (run_for l kept s k) i held

  -- what is held is used, and isn't listed
  pub used_there : kept.listing.used n ≡ true
  used_there = ap (λ (x : Listing). x.used n) k.listing ∙ k.queue.used i ∙ gone.0

  pub unlisted_there : is_listed kept.listing.entries n ≡ false
  unlisted_there = listed_there l kept s k n ∙ gone.1

  pub is_gone : IsGone s.queue i
  is_gone = (k.queue.used i ∙ gone.0, k.queue.entries i ∙ gone.1, refl)

  pub in_range : n.0 < l.irps
  in_range = omega (arith, known, irps_are l kept s k)

  -- the file object that the driver has of it
  pub file_is : slice_index_or kept.files n.0 (record { 0 = 0 }) ≡ s.queue.file_of n
  file_is = k.files n in_range

  replies : (o : Option InsertStatus) → o ≡ first_cause (renewed n kept.listing) n f → (b : Bool) → flagged s.run i ≡ b → reply_to_insert o b ≡ reply_to_insert (back_refusal l s.queue i f) (has_irp s.queue.flags i)
  replies o is b flag =
      ap (λ x. reply_to_insert x b) (is ∙ ap (λ (x : Listing). first_cause (renewed n x) n f) k.listing) ∙ ap (reply_to_insert (back_refusal l s.queue i f)) (sym (k.queue.flags i ∙ flag))

  pub refused_keeps : (cause : InsertStatus) → Some cause ≡ first_cause (renewed n kept.listing) n f → (listing : Listing) → listing ≡ kept.listing
      → (t : Script) × Calls l s (PutBack n place) (InsertRefused cause) t × Keeps l (record kept { listing = listing }) t
  refused_keeps cause is listing same =
      let P : Listing → Type 0 = λ x. Keeps l (record kept { listing = x }) s in
      (s, refuses_put_back n place cause in_range held (is_gone, refl, replies (Some cause) is (flagged s.run i) refl), subst P (sym same) k)

  pub rearm_may : HoldsRemoved s.run → May kept.machine (Rearm i)
  rearm_may removals = may_rearm kept.machine s.run Nothing (starts l kept s k) i refl known held (removals i held)

  module _ (m1 : MachineState) (a1 : Agrees m1 (next_step s.run (Rearm i))) (same1 : size_of m1 ≡ size_of kept.machine) where
    goes1 : Goes m1 (next_step s.run (Rearm i)) (Rearmed i)
    goes1 = went kept.machine s.run Nothing (starts l kept s k) m1 (Rearm i) a1 same1

    known1 : number i < (size_of m1).irps
    known1 = omega (arith, known, ap (λ (n : Size). n.irps) same1)

    pub test_may : May m1 (Test i)
    test_may = may_test_again m1 (next_step s.run (Rearm i)) (Rearmed i) goes1 i refl known1

    queue1 : IsOfRun l.first (next_step s.run (Rearm i)) (after_event s.queue (event.PutBack i f place reply.Pending))
    queue1 = queue_rearm (script_size l) s.run (run_for l kept s k) s.queue k.queue i f place held

    module _ (m2 : MachineState) (a2 : Agrees m2 (next_step (next_step s.run (Rearm i)) (Test i))) (same2 : size_of m2 ≡ size_of m1)
        (v : ℕ) (value : v ≡ found_by (next_step s.run (Rearm i)) (Test i)) where
      goes2 : Goes m2 (next_step (next_step s.run (Rearm i)) (Test i)) (inside_after (Rearmed i) (Test i) (bit (flagged s.run i)))
      goes2 = went m1 (next_step s.run (Rearm i)) (Rearmed i) goes1 m2 (Test i) a2 same2

      queue2 : IsOfRun l.first (next_step (next_step s.run (Rearm i)) (Test i)) (after_event s.queue (event.PutBack i f place reply.Pending))
      queue2 = queue_test (next_step s.run (Rearm i)) (after_event s.queue (event.PutBack i f place reply.Pending)) queue1 i

      listing_is : (listing : Listing) → listing ≡ inserted place (record { irp = n; file = f }) kept.listing → listing ≡ plain_listing l (after_event s.queue (event.PutBack i f place reply.Pending))
      listing_is listing is = is ∙ ap (inserted place (record { irp = n; file = f })) k.listing ∙ listing-relisted l s.queue i f place refl is_gone.0

      pub pending_keeps : (listing : Listing) → listing ≡ inserted place (record { irp = n; file = f }) kept.listing → None ≡ first_cause (renewed n kept.listing) n f → v ≡ 0
          → (t : Script) × Calls l s (PutBack n place) Pending t × Keeps l (record kept { machine = m2; listing = listing }) t
      pending_keeps listing is accepted clear =
          let flag : flagged s.run i ≡ false = zero_is (flagged s.run i) v value clear in (
            doing (Rearm i ∷ Test i ∷ []) (event.PutBack i f place reply.Pending) s,
            puts_back n place in_range held (is_gone, refl, replies None accepted false flag),
            keeps_run l kept s k m2 listing (next_step (next_step s.run (Rearm i)) (Test i)) (after_event s.queue (event.PutBack i f place reply.Pending)) a2 (same2 ∙ same1) (listing_is listing is) queue2
                (goes2.at ∙ ap (λ b. inside_after (Rearmed i) (Test i) (bit b)) flag) (λ j. refl) (λ j. refl) (λ j. refl),
          )

      module _ (set : v ≡ 0 → ⊥) where
        flag : flagged s.run i ≡ true
        flag = one_is (flagged s.run i) v value set

        at2 : inside_after (Rearmed i) (Test i) (bit (flagged s.run i)) ≡ FlagSeenAgain i
        at2 = ap (λ b. inside_after (Rearmed i) (Test i) (bit b)) flag

        known2 : number i < (size_of m2).irps
        known2 = omega (arith, known1, ap (λ (n : Size). n.irps) same2)

        pub disarm_may : May m2 (Disarm i)
        disarm_may = may_disarm_again m2 (next_step (next_step s.run (Rearm i)) (Test i)) _ goes2 i at2 known2

        pub cancel_may : None ≡ first_cause (renewed n kept.listing) n f → MayCome l s.queue (event.PutBack i f place reply.Cancelled)
        cancel_may accepted = (is_gone, refl, replies None accepted true flag)

        -- the put-back's own exchange finds the routine
        one_found : found_by (next_step (next_step s.run (Rearm i)) (Test i)) (Disarm i) ≡ 1
        one_found = rw same_irp-refl refl

        module _ (m3 : MachineState) (a3 : Agrees m3 (next_step (next_step (next_step s.run (Rearm i)) (Test i)) (Disarm i))) (same3 : size_of m3 ≡ size_of m2)
            (listing : Listing) (is : listing ≡ inserted place (record { irp = n; file = f }) kept.listing) (last : Listing) (without_i : last ≡ without_irp n listing) where
          at3 : inside (next_step (next_step (next_step s.run (Rearm i)) (Test i)) (Disarm i)) script_pass ≡ Nothing
          at3 = (went m2 (next_step (next_step s.run (Rearm i)) (Test i)) _ goes2 m3 (Disarm i) a3 same3).at
              ∙ ap (λ x. inside_after x (Disarm i) (found_by (next_step (next_step s.run (Rearm i)) (Test i)) (Disarm i))) at2

          entries_back : without i (put_at place (new_entry i f) s.queue.entries) ≡ s.queue.entries
          entries_back = filter-put_at (λ (e : Queued). same_irp e.irp i) place (new_entry i f) s.queue.entries (same_irp-refl i) is_gone.1

          with_these : List Queued → QueueState
          with_these es = record { entries = es; closed = s.queue.closed; used = s.queue.used; flags = s.queue.flags; lives = s.queue.lives; file_of = s.queue.file_of }

          queue3 : IsOfRun l.first (next_step (next_step (next_step s.run (Rearm i)) (Test i)) (Disarm i)) (after_event s.queue (event.PutBack i f place reply.Cancelled))
          unfolding with_these
          queue3 =
              let F : ℕ → List Made = λ n. found_then (next_step (next_step s.run (Rearm i)) (Test i)) (Disarm i) n in
              let IsQueue : List Made → Type 0 = λ E. IsOfRun l.first E (with_these s.queue.entries) in
              let OfEntries : List Queued → Type 0 = λ es. IsOfRun l.first (found_then (next_step (next_step s.run (Rearm i)) (Test i)) (Disarm i) 1) (with_these es) in
              subst IsQueue (ap F (sym one_found)) (subst OfEntries entries_back (queue_hit (next_step (next_step s.run (Rearm i)) (Test i)) (after_event s.queue (event.PutBack i f place reply.Pending)) queue2 i))

          last_is : last ≡ plain_listing l (after_event s.queue (event.PutBack i f place reply.Cancelled))
          last_is = without_i ∙ ap (without_irp n) (is ∙ ap (inserted place (record { irp = n; file = f })) k.listing)
              ∙ listing-put_and_taken l s.queue i f place refl is_gone.0 (sound_lives (script_size l) s.run (run_for l kept s k) s.queue k.queue).entries is_gone.1

          pub taken_keeps : Keeps l (record kept { machine = m3; listing = last }) (doing (Rearm i ∷ Test i ∷ Disarm i ∷ []) (event.PutBack i f place reply.Cancelled) s)
          taken_keeps = keeps_run l kept s k m3 last (next_step (next_step (next_step s.run (Rearm i)) (Test i)) (Disarm i)) (after_event s.queue (event.PutBack i f place reply.Cancelled)) a3 (same3 ∙ same2 ∙ same1)
              last_is queue3 at3 (λ j. refl) (λ j. refl) (λ j. refl)
