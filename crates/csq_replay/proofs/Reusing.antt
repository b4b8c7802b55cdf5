-- A reuse: what the driver keeps in the end.
use Rattle.std.proofs.Common.{◌≡◌, ◌≢◌, ℕ, ◌+◌, ◌<◌, ◌≤◌, Bool, true, false, cond, List, [], length, Option, Some, None, refl, ap, sym, ◌∙◌, arith}
use Rattle.std.specs.Option.{is_some}
use Rattle.csq_replay.proofs.Imports.{slice_index_or, slice_set, get_or-set_same, get_or-set_other, length-set, IrpId, PassId, NtStatus, Nothing, Renew, Made, Standing, same_id, IrpLife, was_armed, listed, dones, last_life, MachineState, Agrees, size_of, same_id-eq, same_id-ne, same_pass-refl, Row, stands, done_gone, unborn_home, status_recorded, is_listed, Listing, renewed, Limits, listing-renewed, Reuse, NotCompleted, LivesSpent, Begun, Refused, Script, script_size, present_of, life_after, next_step, after_reuse, Calls, reuses, not_completed, lives_spent, Keeping, Keeps}
use Rattle.irp_core.specs.declared.standing.Standing.TheVariants.{Finished}
use Rattle.csq_replay.proofs.Going.{May, starts, run_for, now_present, may_renew}
use Rattle.csq_replay.proofs.Queueing.{queue_renew, sound_lives}
use Rattle.csq_replay.proofs.Calling.{irps_are, listed_there}

module _ (ever set : Bool) (cl : List Made) (ow ho dn : PassId → Bool) (ends : List Made) (gone byr : Bool) (i : IrpLife) where
  -- what was completed was armed
  row_done : (s : Standing) → Row ever set cl ow ho dn ends gone byr i s → ends ≢ [] → ever ≡ true
  row_done (Finished status p) h n = h.ever_is
  row_done x h n = absurd (n h.dones_are)

pub none_of : {A : Type 0} (o : Option A) → is_some o ≡ false → o ≡ None
none_of None e = refl
none_of (Some x) e = absurd cc

pub some_of : {A : Type 0} (o : Option A) → is_some o ≡ true → (x : A) × (o ≡ Some x)
some_of (Some x) e = (x, refl)
some_of None e = absurd cc

module _ (l : Limits) (kept : Keeping) (s : Script) (k : Keeps l kept s) (n : IrpId) where
  pub uncompleted_keeps : n.0 < (size_of kept.machine).irps → slice_index_or kept.statuses n.0 None ≡ None → (t : Script) × Calls l s (Reuse n) (Refused NotCompleted) t × Keeps l kept t
  uncompleted_keeps known none =
      let here : n.0 < l.irps = omega (arith, known, irps_are l kept s k) in
      (s, not_completed n here (sym (k.statuses n here) ∙ none), k)

  module _ (known : n.0 < (size_of kept.machine).irps) (status : NtStatus) (kept_status : slice_index_or kept.statuses n.0 None ≡ Some status) where
    here : n.0 < l.irps
    here = omega (arith, known, irps_are l kept s k)

    has_status : status_recorded (present_of s n) s.completed ≡ Some status
    has_status = sym (k.statuses n here) ∙ kept_status

    -- so it was completed, and is over
    over : dones s.run (present_of s n) ≢ []
    over none = let unreported = k.reported (present_of s n) none in let reported = has_status in absurd (cc (unreported, reported))

    used : was_armed s.run (present_of s n) ≡ true
    used = let x = stands (script_size l) s.run (run_for l kept s k) (present_of s n) in row_done _ _ _ _ _ _ _ _ _ (present_of s n) x.0 x.1 over

    pub used_there : kept.listing.used n ≡ true
    used_there = ap (λ (x : Listing). x.used n) k.listing ∙ k.queue.used (present_of s n) ∙ used

    gone : listed s.run (present_of s n) ≡ false
    gone = (done_gone (script_size l) s.run (run_for l kept s k) (present_of s n) over).0

    pub unlisted_there : is_listed kept.listing.entries n ≡ false
    unlisted_there = listed_there l kept s k n ∙ gone

    pub spent_keeps : last_life ≤ s.queue.lives n → (t : Script) × Calls l s (Reuse n) (Refused LivesSpent) t × Keeps l kept t
    spent_keeps last = (s, lives_spent n status here has_status last, k)

    module _ (room : s.queue.lives n < last_life) where
      pub renew_may : May kept.machine (Renew (present_of s n))
      renew_may = may_renew kept.machine s.run Nothing (starts l kept s k) (present_of s n) refl known (now_present l kept s k n) over room

      -- the life after it
      abbrev next : IrpLife
      next = record { irp = n; life = life_after s n }

      unborn : dones s.run next ≡ []
      unborn =
          let now = k.queue.lives n in
          (unborn_home (script_size l) s.run (run_for l kept s k) next (omega (arith, now))).dones_are

      -- each IRP's present life afterwards
      abbrev at_life : IrpId → ℕ → IrpLife
      at_life m g = record { irp = m; life = record { 0 = g } }

      here_now : (m : IrpId) → same_id n m ≡ true → present_of (after_reuse n s) m ≡ next
      here_now m e =
          let same : n ≡ m = same_id-eq n m e in
          ap (λ b. at_life m (cond b (s.queue.lives m + 1) (s.queue.lives m))) e ∙ ap (λ x. at_life x (s.queue.lives x + 1)) (sym same)

      there_now : (m : IrpId) → same_id n m ≡ false → present_of (after_reuse n s) m ≡ present_of s m
      there_now m e = ap (λ b. at_life m (cond b (s.queue.lives m + 1) (s.queue.lives m))) e

      status_now : (m : IrpId) → m.0 < l.irps → (b : Bool) → same_id n m ≡ b → slice_index_or (slice_set kept.statuses n.0 None) m.0 None ≡ status_recorded (present_of (after_reuse n s) m) s.completed
      status_now m in_range true e =
          ap (λ (x : IrpId). slice_index_or (slice_set kept.statuses n.0 None) x.0 None) (sym (same_id-eq n m e)) ∙ get_or-set_same kept.statuses n.0 None None (omega (arith, here, k.statuses_size))
          ∙ sym (ap (λ (y : IrpLife). status_recorded y s.completed) (here_now m e) ∙ k.reported next unborn)
      status_now m in_range false e =
          get_or-set_other kept.statuses n.0 m.0 None None (λ same. same_id-ne n m e (sym same)) ∙ k.statuses m in_range ∙ ap (λ (y : IrpLife). status_recorded y s.completed) (sym (there_now m e))

      pub renewed_keeps : (machine : MachineState) → Agrees machine (next_step s.run (Renew (present_of s n))) → size_of machine ≡ size_of kept.machine
          → (new : Listing) → new ≡ renewed n kept.listing → (statuses : List (Option NtStatus)) → statuses ≡ slice_set kept.statuses n.0 None
          → (t : Script) × Calls l s (Reuse n) (Begun (life_after s n)) t × Keeps l (record kept { machine = machine; listing = new; statuses = statuses }) t
      renewed_keeps machine a same new is statuses reported = (
        after_reuse n s,
        reuses n status here has_status room (k.queue.used (present_of s n) ∙ used, k.queue.entries (present_of s n) ∙ gone, refl),
        record {
          agrees = a;
          size = same ∙ k.size;
          few = k.few;
          listing = is ∙ ap (renewed n) k.listing ∙ listing-renewed l s.queue n (sound_lives (script_size l) s.run (run_for l kept s k) s.queue k.queue);
          queue = queue_renew (script_size l) s.run (run_for l kept s k) s.queue k.queue n (life_after s n);
          outside = rw same_pass-refl refl;
          reported = k.reported;
          statuses = λ m in_range. ap (λ x. slice_index_or x m.0 None) reported ∙ status_now m in_range (same_id n m) refl;
          statuses_size = ap length reported ∙ length-set kept.statuses n.0 None ∙ k.statuses_size;
          files = k.files;
          files_size = k.files_size;
        },
      )
