-- What a driver keeps after a call.
use Rattle.std.proofs.Common.{◌≡◌, ℕ, ◌<◌, Bool, true, false, cond, not, ◌==◌, List, [], ◌∷◌, length, Option, Some, None, refl, ap, sym, ◌∙◌, subst, arith}
use Rattle.csq_replay.proofs.Imports.{by_test, by_value, slice_index_or, slice_set, get_or-set_same, get_or-set_other, length-set, FileId, IrpId, NtStatus, PENDING, Take, Out, Done, Made, IrpPlace, IsPlace, number, same_id, same_irp, same_pass, IrpLife, bit, armed, flagged, owes, holds, listed, dones, present, Size, IsRun, MachineState, Agrees, size_of, same_id-eq, same_id-ne, same_irp-refl, same_irp-eq, same_irp-ne, same_pass-refl, same_pass-eq, status_recorded, is_listed, Listing, with_closed, without_irp, Limits, with_file, after_event, has_entry, has_marked, has_unmarked, id_eq, is_listed-plain, listing-removed, listing-marked, ScriptCall, UnknownIrp, UnknownFile, NoClaim, NotHeld, StatusPending, Stale, Claimed, Unclaimed, Closed, Refused, Script, script_pass, script_size, present_of, IsPresentOf, next_step, doing, completing, after_mark, status_reply, irp_of, token_of, cancelled_life, file_of, Calls, has_no_claim, holds_none, refuses_pending, closes, reports_flag, reports_status, knows_no_irp, knows_no_file, claims_none, is_stale, Keeping, Keeps, IsOfRun}
use Rattle.irp_core.specs.declared.step.Kind.TheVariants as step
use Rattle.irp_core.specs.declared.standing.IrpPlace.TheVariants.{HeldBy}
use Rattle.csq_replay.proofs.OneAnswer.{one_place}
use Rattle.csq_words.specs.declared.views.Event.TheVariants as event
use Rattle.csq_replay.specs.declared.script.call.ScriptCall.TheVariants.{Mark, Routine, Complete, Close, Flag, Status}
use Rattle.csq_replay.specs.declared.script.call.Reply.TheVariants as reply
use Rattle.csq_replay.specs.Calls.Calls.{claims as claims_it}
use Rattle.csq_replay.specs.Replies.{mark_reply}
use Rattle.csq_replay.proofs.Queueing.{marked_is, queue_done, queue_flag, queue_take, queue_take_none, queue_out, armed_listed, owed_listed, sound_lives}
use Rattle.csq_replay.proofs.Going.{run_for, present_is}

module _ (l : Limits) (kept : Keeping) (s : Script) (k : Keeps l kept s) where
  pub irps_are : (size_of kept.machine).irps ≡ l.irps
  irps_are = ap (λ (n : Size). n.irps) k.size

  -- an IRP that the machine doesn't have
  pub unknown_keeps : (c : ScriptCall) (n : IrpId) → irp_of c ≡ Some n → (n.0 < (size_of kept.machine).irps → ⊥)
      → (t : Script) × Calls l s c (Refused UnknownIrp) t × Keeps l kept t
  unknown_keeps c n names none = (s, knows_no_irp c n names (omega (arith, none, irps_are)), k)

  -- a life that isn't the present one
  pub stale_keeps : (c : ScriptCall) (i : IrpLife) → cancelled_life c ≡ Some i → number i < (size_of kept.machine).irps → (x : IrpLife) → x ≡ present_of s i.irp → same_irp x i ≡ false
      → (t : Script) × Calls l s c (Refused (Stale x.life)) t × Keeps l kept t
  stale_keeps c i names known x is other =
      let P : IrpLife → Type 0 = λ y. Calls l s c (Refused (Stale y.life)) s in
      (s, subst P (sym is) (is_stale c i names (omega (arith, known, irps_are)) (λ now. same_irp-ne x i other (is ∙ now))), k)

  pub unknown_file_keeps : (c : ScriptCall) (f : FileId) → file_of c ≡ Some f → (f.0 < kept.listing.files → ⊥) → (new : Listing) → new ≡ kept.listing
      → (t : Script) × Calls l s c (Refused UnknownFile) t × Keeps l (record kept { listing = new }) t
  unknown_file_keeps c f names none new same =
      let files : kept.listing.files ≡ l.files = ap (λ (x : Listing). x.files) k.listing in
      let P : Listing → Type 0 = λ x. Keeps l (record kept { listing = x }) s in
      (s, knows_no_file c f names (omega (arith, none, files)), subst P (sym same) k)

  pub flag_keeps : (n : IrpId) → n.0 < (size_of kept.machine).irps → (b : Bool) → b ≡ flagged s.run (present (size_of kept.machine).first s.run n)
      → (t : Script) × Calls l s (Flag n) (reply.Flag b) t × Keeps l kept t
  flag_keeps n known b is =
      let P : Bool → Type 0 = λ x. Calls l s (Flag n) (reply.Flag x) s in
      (s, subst P (sym (is ∙ ap (flagged s.run) (present_is l kept s k n))) (reports_flag n (omega (arith, known, irps_are))), k)

  pub status_keeps : (n : IrpId) → n.0 < (size_of kept.machine).irps → (o : Option NtStatus) → o ≡ slice_index_or kept.statuses n.0 None
      → (t : Script) × Calls l s (Status n) (status_reply o) t × Keeps l kept t
  status_keeps n known o is =
      let here : n.0 < l.irps = omega (arith, known, irps_are) in
      let P : Option NtStatus → Type 0 = λ x. Calls l s (Status n) (status_reply x) s in
      (s, subst P (sym (is ∙ k.statuses n here)) (reports_status n here), k)

  pub close_keeps : (f : FileId) → f.0 < kept.listing.files → (new : Listing) → new ≡ with_closed f kept.listing
      → (t : Script) × Calls l s (Close f) Closed t × Keeps l (record kept { listing = new }) t
  close_keeps f known new is = (
    doing [] (event.CloseFile f) s,
    closes f (omega (arith, known, ap (λ (x : Listing). x.files) k.listing)),
    record {
      agrees = k.agrees;
      size = k.size;
      few = k.few;
      listing = is ∙ ap (with_closed f) k.listing;
      queue = record { lives = k.queue.lives; used = k.queue.used; entries = k.queue.entries; flags = k.queue.flags; marks = k.queue.marks };
      outside = k.outside;
      reported = k.reported;
      statuses = k.statuses;
      statuses_size = k.statuses_size;
      files = k.files;
      files_size = k.files_size;
    },
  )

  -- names of present lives are one where their numbers are
  number_of_now : (n m : IrpId) → same_irp (present_of s n) (present_of s m) ≡ true → m.0 ≡ n.0
  number_of_now n m e = ap number (sym (same_irp-eq (present_of s n) (present_of s m) e))

  other_number : (n m : IrpId) → same_irp (present_of s n) (present_of s m) ≡ false → m.0 ≡ n.0 → ⊥
  other_number n m e same = same_irp-ne (present_of s n) (present_of s m) e (ap (present_of s) (sym (id_eq m n same)))

  -- the pass completes what it holds
  pub done_keeps : (n : IrpId) (status : NtStatus) → n.0 < l.irps → (machine : MachineState) → Agrees machine (next_step s.run (Done (present_of s n))) → size_of machine ≡ size_of kept.machine
      → (statuses : List (Option NtStatus)) → statuses ≡ slice_set kept.statuses n.0 (Some status)
      → Keeps l (record kept { machine = machine; statuses = statuses }) (completing (present_of s n) status s)
  done_keeps n status known machine a same statuses is = record {
    agrees = a;
    size = same ∙ k.size;
    few = k.few;
    listing = k.listing;
    queue = queue_done s.run s.queue k.queue (present_of s n);
    outside = rw same_pass-refl refl;
    reported = λ i none. unreported i (same_irp (present_of s n) i) refl none;
    statuses = λ j in_range. ap (λ x. slice_index_or x j.0 None) is ∙ reported j in_range (same_irp (present_of s n) (present_of s j)) refl;
    statuses_size = ap length is ∙ length-set kept.statuses n.0 (Some status) ∙ k.statuses_size;
    files = k.files;
    files_size = k.files_size;
  }
    where
      reported : (j : IrpId) → j.0 < l.irps → (b : Bool) → same_irp (present_of s n) (present_of s j) ≡ b
          → slice_index_or (slice_set kept.statuses n.0 (Some status)) j.0 None
          ≡ cond (same_irp (present_of s n) (present_of s j)) (Some status) (status_recorded (present_of s j) s.completed)
      reported j in_range true e =
          rw (e, number_of_now n j e) (get_or-set_same kept.statuses n.0 (Some status) None (omega (arith, known, k.statuses_size)))
      reported j in_range false e =
          rw e (get_or-set_other kept.statuses n.0 j.0 (Some status) None (other_number n j e) ∙ k.statuses j in_range)

      unreported : (i : IrpLife) (b : Bool) → same_irp (present_of s n) i ≡ b → dones (next_step s.run (Done (present_of s n))) i ≡ []
          → cond (same_irp (present_of s n) i) (Some status) (status_recorded i s.completed) ≡ None
      unreported i true e none = absurd (cc (rw e at none))
      unreported i false e none = rw e (k.reported i (rw e at none))

  flagged_queue : (i : IrpLife) → IsOfRun l.first (next_step s.run (step.Flag i)) (after_event s.queue (event.FlagSeen i))
  flagged_queue i = queue_flag s.run s.queue k.queue i

  unclaimed_keeps : (i : IrpLife) → number i < (size_of kept.machine).irps → IsPresentOf s i → armed s.run i ≡ false → (machine : MachineState)
      → Agrees machine (next_step (next_step s.run (step.Flag i)) (Take i)) → size_of machine ≡ size_of kept.machine
      → (t : Script) × Calls l s (Mark i) Unclaimed t × Keeps l (record kept { machine = machine }) t
  unclaimed_keeps i known now none machine a same = (
    after_mark i s,
    claims_none i (omega (arith, known, irps_are)) now (ap bit none),
    record {
      agrees = a;
      size = same ∙ k.size;
      few = k.few;
      listing = k.listing;
      queue = queue_take_none (next_step s.run (step.Flag i)) (after_event s.queue (event.FlagSeen i)) (flagged_queue i) i (bit (armed s.run i)) none;
      outside = rw same_pass-refl refl;
      reported = k.reported;
      statuses = k.statuses;
      statuses_size = k.statuses_size;
      files = k.files;
      files_size = k.files_size;
    },
  )

  claimed_keeps : (i : IrpLife) → number i < (size_of kept.machine).irps → IsPresentOf s i → armed s.run i ≡ true → (machine : MachineState)
      → Agrees machine (next_step (next_step s.run (step.Flag i)) (Take i)) → size_of machine ≡ size_of kept.machine
      → (t : Script) × Calls l s (Mark i) Claimed t × Keeps l (record kept { machine = machine }) t
  claimed_keeps i known now set machine a same =
      let here : number i < l.irps = omega (arith, known, irps_are) in
      let there : has_entry s.queue.entries i ≡ true = k.queue.entries i ∙ armed_listed (size_of kept.machine) s.run k.agrees.run i set in
      let unmarked : has_unmarked s.queue.entries i ≡ true = (marked_is s.run s.queue.entries k.queue.marks i).0 ∙ rw (there, set) refl in (
        doing [] (event.Mark i) (after_mark i s),
        claims_it i here now (ap bit set) unmarked,
        record {
          agrees = a;
          size = same ∙ k.size;
          few = k.few;
          listing = k.listing ∙ listing-marked l (after_event s.queue (event.FlagSeen i)) i;
          queue = queue_take (next_step s.run (step.Flag i)) (after_event s.queue (event.FlagSeen i)) (flagged_queue i) i (bit (armed s.run i));
          outside = rw same_pass-refl refl;
          reported = k.reported;
          statuses = k.statuses;
          statuses_size = k.statuses_size;
          files = k.files;
          files_size = k.files_size;
        },
      )

  -- a mark answers whether its Take found the routine
  pub mark_keeps : (i : IrpLife) → number i < (size_of kept.machine).irps → IsPresentOf s i → (v : ℕ) → v ≡ bit (armed s.run i) → (machine : MachineState)
      → Agrees machine (next_step (next_step s.run (step.Flag i)) (Take i)) → size_of machine ≡ size_of kept.machine
      → (t : Script) × Calls l s (Mark i) (mark_reply (not (v == 0))) t × Keeps l (record kept { machine = machine }) t
  mark_keeps i known now v found machine a same = by_test (armed s.run i)
      (λ set. rw (found ∙ ap bit set) (claimed_keeps i known now set machine a same))
      (λ none. rw (found ∙ ap bit none) (unclaimed_keeps i known now none machine a same))

  -- after a mark with a claim, the pass owes the IRP
  pub claimed_owes : (i : IrpLife) (t : Script) → Calls l s (Mark i) Claimed t → (number i < l.irps) × (owes t.run script_pass (present_of t i.irp) ≡ true)
  claimed_owes i t (claims_it j known now found may) =
      let mine : owes t.run script_pass i ≡ true = rw (same_irp-refl, same_pass-refl, found) refl in (known, ap (owes t.run script_pass) now ∙ mine)

  -- the cancel routine takes out what is owed
  pub out_keeps : (n : IrpId) (machine : MachineState)
      → Agrees machine (next_step s.run (Out (present_of s n))) → size_of machine ≡ size_of kept.machine → (new : Listing) → new ≡ without_irp n kept.listing
      → Keeps l (record kept { machine = machine; listing = new }) (doing (Out (present_of s n) ∷ []) (event.Out (present_of s n)) s)
  out_keeps n machine a same new without_n = record {
    agrees = a;
    size = same ∙ k.size;
    few = k.few;
    listing = without_n ∙ ap (without_irp n) k.listing ∙ listing-removed l s.queue (present_of s n) refl (sound_lives (script_size l) s.run (run_for l kept s k) s.queue k.queue).entries;
    queue = queue_out s.run s.queue k.queue (present_of s n) 0;
    outside = rw same_pass-refl refl;
    reported = k.reported;
    statuses = k.statuses;
    statuses_size = k.statuses_size;
    files = k.files;
    files_size = k.files_size;
  }

  pub out_may_come : (i : IrpLife) → owes s.run script_pass i ≡ true → has_marked s.queue.entries i ≡ true
  out_may_come i owed =
      let h = owed_listed (size_of kept.machine) s.run k.agrees.run i owed in
      (marked_is s.run s.queue.entries k.queue.marks i).1 ∙ rw (k.queue.entries i ∙ h.0, h.1) refl

  pub not_held_keeps : (c : ScriptCall) (n : IrpId) → token_of c ≡ Some n → n.0 < (size_of kept.machine).irps → holds s.run script_pass (present_of s n) ≡ false
      → (t : Script) × Calls l s c (Refused NotHeld) t × Keeps l kept t
  not_held_keeps c n takes known none = (s, holds_none c n takes (omega (arith, known, irps_are)) none, k)

  pub pending_keeps : (n : IrpId) → n.0 < (size_of kept.machine).irps → (status : NtStatus) → holds s.run script_pass (present_of s n) ≡ true → status ≡ PENDING
      → (t : Script) × Calls l s (Complete n status) (Refused StatusPending) t × Keeps l kept t
  pending_keeps n known status held pending =
      let P : NtStatus → Type 0 = λ x. Calls l s (Complete n x) (Refused StatusPending) s in
      (s, subst P (sym pending) (refuses_pending n (omega (arith, known, irps_are)) held), k)

  pub no_claim_keeps : (n : IrpId) → n.0 < (size_of kept.machine).irps → owes s.run script_pass (present_of s n) ≡ false → (t : Script) × Calls l s (Routine n) (Refused NoClaim) t × Keeps l kept t
  no_claim_keeps n known none = (s, has_no_claim n (omega (arith, known, irps_are)) none, k)

  -- of an IRP that an insert accepts the file object is kept
  pub filed_keeps : (n : IrpId) (f : FileId) → n.0 < l.irps → (files : List FileId) → files ≡ slice_set kept.files n.0 f
      → Keeps l (record kept { files = files }) (record s { queue = record s.queue { file_of = with_file n f s.queue.file_of } })
  filed_keeps n f known files is = record {
    agrees = k.agrees;
    size = k.size;
    few = k.few;
    listing = k.listing;
    queue = record { lives = k.queue.lives; used = k.queue.used; entries = k.queue.entries; flags = k.queue.flags; marks = k.queue.marks };
    outside = k.outside;
    reported = k.reported;
    statuses = k.statuses;
    statuses_size = k.statuses_size;
    files = λ m in_range. ap (λ x. slice_index_or x m.0 (record { 0 = 0 })) is ∙ noted m in_range (same_id n m) refl;
    files_size = ap length is ∙ length-set kept.files n.0 f ∙ k.files_size;
  }
    where
      noted : (m : IrpId) → m.0 < l.irps → (b : Bool) → same_id n m ≡ b → slice_index_or (slice_set kept.files n.0 f) m.0 (record { 0 = 0 }) ≡ with_file n f s.queue.file_of m
      noted m in_range true e =
          rw e (ap (λ (x : IrpId). slice_index_or (slice_set kept.files n.0 f) x.0 (record { 0 = 0 })) (sym (same_id-eq n m e)) ∙ get_or-set_same kept.files n.0 f (record { 0 = 0 }) (omega (arith, known, k.files_size)))
      noted m in_range false e = rw e (get_or-set_other kept.files n.0 m.0 f (record { 0 = 0 }) (λ same. same_id-ne n m e (sym same)) ∙ k.files m in_range)

  -- whether the list has it
  pub listed_there : (n : IrpId) → is_listed kept.listing.entries n ≡ listed s.run (present_of s n)
  listed_there n =
      ap (λ (x : Listing). is_listed x.entries n) k.listing
      ∙ is_listed-plain s.queue.lives (present_of s n) refl s.queue.entries (sound_lives (script_size l) s.run (run_for l kept s k) s.queue k.queue).entries ∙ k.queue.entries (present_of s n)

  pub owed_there : (n : IrpId) → owes s.run script_pass (present_of s n) ≡ true → is_listed kept.listing.entries n ≡ true
  owed_there n owed = listed_there n ∙ (owed_listed (size_of kept.machine) s.run k.agrees.run (present_of s n) owed).0

-- the same parts are kept
pub keeps_as : (l : Limits) (a b : Keeping) (s : Script) → Keeps l a s → b.machine ≡ a.machine → b.listing ≡ a.listing → b.statuses ≡ a.statuses → b.files ≡ a.files → Keeps l b s
keeps_as l a b s k machine listing statuses files =
    let M : MachineState → Type 0 = λ x. Keeps l (record { machine = x; listing = b.listing; statuses = b.statuses; files = b.files }) s in
    let G : Listing → Type 0 = λ x. Keeps l (record { machine = a.machine; listing = x; statuses = b.statuses; files = b.files }) s in
    let S : List (Option NtStatus) → Type 0 = λ x. Keeps l (record { machine = a.machine; listing = a.listing; statuses = x; files = b.files }) s in
    let F : List FileId → Type 0 = λ x. Keeps l (record { machine = a.machine; listing = a.listing; statuses = a.statuses; files = x }) s in
    subst M (sym machine) (subst G (sym listing) (subst S (sym statuses) (subst F (sym files) k)))

-- where an IRP is says whether the pass holds it
abbrev pub held_there : IrpPlace → Bool
held_there (HeldBy q) = same_pass q script_pass
held_there _ = false

pub place_holds : (size : Size) (E : List Made) → IsRun size E → (i : IrpLife) (place : IrpPlace) → IsPlace E i place → held_there place ≡ holds E script_pass i
place_holds size E r i place is = by_value (λ b. held_there place ≡ b) (holds E script_pass i)
    (λ e. ap held_there (one_place size E r i place (HeldBy script_pass) is e) ∙ same_pass-refl script_pass)
    (λ e. not_there place is (held_there place) refl e)
  where
    not_there : (p : IrpPlace) → IsPlace E i p → (b : Bool) → held_there p ≡ b → holds E script_pass i ≡ false → b ≡ false
    not_there (HeldBy q) at true e none = let same : q ≡ script_pass = same_pass-eq q script_pass e in let held : holds E script_pass i ≡ true = ap (λ p. holds E p i) (sym same) ∙ at in cc
    not_there (HeldBy q) at false e none = refl
    not_there x at b e none = sym e
