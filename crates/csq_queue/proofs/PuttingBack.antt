-- A put-back of an IRP that the joined pass got by a removal.
use Rattle.std.proofs.Common.{◌≡◌, ℕ, not, ◌&&◌, ◌||◌, Bool, true, false, true≢false, List, [], ◌∷◌, Some, None, Ok, refl, sym, ap, ◌∙◌, subst}
use Rattle.csq_queue.proofs.Imports.{by_value, steps_in, Tick, false_from_ne_true, or_right, slice_index, IsTrue, length, ◌<◌, TableId, same_irp, number, IrpLife, FileId, Made, Rearm, Test, Disarm, holds_in, removed_in, owes, holds, listed, armed, was_armed, same_irp-refl, same_irp-eq, holds_in-own, removed_in-own, Rearmed, Place, InsertStatus, Listing, put_at, inserted, without_irp, is_listed, MayMake, after_step, with_noted, FlagSeen, Mark, PutBack, Pending, Cancelled, Refused, present_in, has_irp, has_entry, back_refusal, reply_to_insert, plain, new_entry, Limits, IsGone, end_of, queue_of, with_trace, SomeRunAgrees, RecordsAgree, lists, inserts, QueueSeatState, joined_record, with_view, open_now, held_gone, irp_eq, ArePresent, listing-relisted, listing-put_and_taken, listing-marked, one_marked, queue_size, IrpNumbers, IsListOf, HoldsRemoved, IsEntered, Adds, MakesSteps, put_back_steps, InsertAnswer}
use Rattle.csq_words.specs.declared.calls.Call.TheVariants.{PutBack as PutBackCall}
use Rattle.csq_words.proofs.Truths.{flags_cancelled}
use Rattle.csq_words.proofs.Marking.{placed_unmarked}
use Rattle.csq_queue.specs.declared.tokens.InsertAnswer.TheVariants as answer
use Rattle.csq_queue.proofs.Presence.{sound_lives, listed_is}
use Rattle.csq_queue.proofs.Searching.{with_made, adds_none, adds_more}
use Rattle.csq_queue.proofs.Giving.{makes_none, makes_more}
use Rattle.csq_queue.proofs.Inserting.{listed-put_at, clear-put_at, pending_steps}

module _ {t : TableId} {l : Limits} {s : Listing} {v : IrpNumbers} {old : QueueSeatState} (h : IsEntered t l s v old) (i : IrpLife) (held : HoldsRemoved l.irps (joined_record old) i) where
  -- the execution that the records agree with
  abbrev trace : List Tick
  trace = h.agreed.0

  abbrev run : List Made
  run = steps_in trace

  abbrev agreed : RecordsAgree (queue_size l) trace old.queue (joined_record old)
  agreed = h.agreed.1

  held_run : holds run (joined_record old).pass i ≡ true
  held_run = sym (ap (λ m. holds_in m i) agreed.pass_is.steps_is ∙ holds_in-own (joined_record old).pass i run) ∙ held.held

  off_list : (armed run i ≡ false) × (listed run i ≡ false) × (was_armed run i ≡ true)
  off_list = held_gone (queue_size l) run agreed.history_is.is_run i (joined_record old).pass held_run

  -- the IRP was accepted, is present and isn't listed
  pub is_gone : IsGone (queue_of old.queue) i
  is_gone = (
    agreed.history_is.used_is i ∙ (ap (λ x. not (inserts x i) && was_armed run i) h.outside ∙ off_list.2),
    agreed.history_is.listed_is i ∙ (ap (λ x. not (lists x i) && listed run i) h.outside ∙ off_list.1),
    open_now (queue_size l) run agreed.history_is.is_run i (joined_record old).pass (or_right (owes run (joined_record old).pass i) (holds run (joined_record old).pass i) held_run) ∙ sym (agreed.history_is.lives_are i.irp),
  )

  -- no insert and no put-back found it flagged: such a one is never put back
  unflagged : has_irp (queue_of old.queue).flags i ≡ false
  unflagged = false_from_ne_true (has_irp (queue_of old.queue).flags i) (λ e.
      let got = removed_in-own (queue_size l) (joined_record old).pass i run agreed.history_is.is_run (subst (λ m. removed_in m i ≡ true) agreed.pass_is.steps_is held.removed) in
      true≢false (sym got ∙ (flags_cancelled old.queue.first run i old.queue.history agreed.history_is.true_of e).not_removed))

  pub here_now : present_in (queue_of old.queue) i.irp ≡ i
  here_now = irp_eq (present_in (queue_of old.queue) i.irp) i refl (sym is_gone.2)

  lives_are : ArePresent (queue_of old.queue).lives (queue_of old.queue).entries
  lives_are = (sound_lives l old.queue h.legal).entries

  -- so the list has it as used and not listed
  pub was_used : IsTrue (s.used i.irp)
  was_used = ap (λ (z : Listing). z.used i.irp) h.list_is.listing_is ∙ (ap (has_irp (queue_of old.queue).used) here_now ∙ is_gone.0)

  pub was_unlisted : is_listed s.entries i.irp ≡ false
  was_unlisted = listed_is l s v (queue_of old.queue) h.list_is i.irp lives_are ∙ (ap (has_entry (queue_of old.queue).entries) here_now ∙ is_gone.1)

  -- the steps by the queue's first life are those by the limits'
  pub first_left : (given : InsertAnswer IrpLife IrpLife) (x : QueueSeatState) → x.queue.first ≡ old.queue.first → MakesSteps (put_back_steps (Ok given) (queue_of x.queue)) (joined_record old) (joined_record x)
      → MakesSteps (put_back_steps (Ok given) (end_of l.first x.queue.history)) (joined_record old) (joined_record x)
  first_left given x e made = subst (λ (m : ℕ). MakesSteps (put_back_steps (Ok given) (end_of m x.queue.history)) (joined_record old) (joined_record x)) (e ∙ h.first_is) made

  -- its file object is at hand
  pub file_known : number i < length v.files
  file_known = subst (λ m. number i < m) (sym h.list_is.files_are.one_each) held.known

  pub file_is : (f : FileId) → f ≡ record { 0 = slice_index v.files i.irp.0 } → f ≡ (queue_of old.queue).file_of i.irp
  file_is f e = e ∙ (let number_of : ℕ → FileId = λ m. record { 0 = m } in ap number_of (h.list_is.files_are.each i.irp held.known))

  module _ (f : FileId) (place : Place) where
    -- the seat after each step of the call, which observed this execution
    pub rearmed_is : (n : ℕ) → n ≡ 0 → (z : QueueSeatState) → z ≡ with_view (after_step (PutBackCall i f place) (Rearm i) n (with_trace z.queue.trace old.queue) (joined_record old)) old → z ≡ with_made (Rearm i) 0 [] z.queue.trace old
    rearmed_is n zero' z is = is ∙ (λ k. with_view (after_step (PutBackCall i f place) (Rearm i) (zero' k) (with_trace z.queue.trace old.queue) (joined_record old)) old)

    pub tested_is : (m n : ℕ) → m ≡ n → (r1 : List Tick) (z y : QueueSeatState) → z ≡ with_made (Rearm i) 0 [] r1 old
        → y ≡ with_view (after_step (PutBackCall i f place) (Test (present_in (queue_of z.queue) i.irp)) m (with_trace y.queue.trace z.queue) (joined_record z)) z
        → let z' = with_made (Rearm i) 0 [] r1 old in y ≡ with_view (after_step (PutBackCall i f place) (Test i) n (with_trace y.queue.trace z'.queue) (joined_record z')) z'
    tested_is m n e r1 z y to_z is =
        let z' = with_made (Rearm i) 0 [] r1 old in
        is ∙ ((λ k. with_view (after_step (PutBackCall i f place) (Test (present_in (queue_of (to_z k).queue) i.irp)) (e k) (with_trace y.queue.trace (to_z k).queue) (joined_record (to_z k))) (to_z k))
        ∙ (λ k. with_view (after_step (PutBackCall i f place) (Test (here_now k)) n (with_trace y.queue.trace z'.queue) (joined_record z')) z'))

    pub disarmed_is : (m n : ℕ) → m ≡ n → (y y' x : QueueSeatState) → y ≡ y' → x ≡ with_view (after_step (PutBackCall i f place) (Disarm i) m (with_trace x.queue.trace y.queue) (joined_record y)) y
        → x ≡ with_view (after_step (PutBackCall i f place) (Disarm i) n (with_trace x.queue.trace y'.queue) (joined_record y')) y'
    disarmed_is m n e y y' x to_y is = is ∙ (λ k. with_view (after_step (PutBackCall i f place) (Disarm i) (e k) (with_trace x.queue.trace (to_y k).queue) (joined_record (to_y k))) (to_y k))

    -- the test is the call's next step
    pub may_test : (r1 : List Tick) (z : QueueSeatState) → z ≡ with_made (Rearm i) 0 [] r1 old → MayMake (PutBackCall i f place) (Test (present_in (queue_of z.queue) i.irp)) z.queue (joined_record z)
    may_test r1 z to_z = subst (λ (w : QueueSeatState). MayMake (PutBackCall i f place) (Test (present_in (queue_of w.queue) i.irp)) w.queue (joined_record w)) (sym to_z) (here_now, ap Rearmed (sym here_now))

    -- and then the exchange
    pub may_disarm : (r1 r2 : List Tick) (y : QueueSeatState) → y ≡ with_made (Test i) 1 [] r2 (with_made (Rearm i) 0 [] r1 old) → MayMake (PutBackCall i f place) (Disarm i) y.queue (joined_record y)
    may_disarm r1 r2 y to_y = subst (λ (w : QueueSeatState). MayMake (PutBackCall i f place) (Disarm i) w.queue (joined_record w)) (sym to_y) (refl, refl)

    -- a refusal changes nothing but the history
    pub back_refused : (cause : InsertStatus) → f ≡ (queue_of old.queue).file_of i.irp → back_refusal l (queue_of old.queue) i f ≡ Some cause → (s' : Listing) → s' ≡ s → (y : QueueSeatState)
        → y ≡ with_view (with_noted (PutBack i f place (Refused cause) ∷ []) (with_trace y.queue.trace old.queue) (joined_record old)) old → SomeRunAgrees (queue_size l) y.queue (joined_record y) → Adds l old (PutBack i f place (Refused cause) ∷ []) s' v y
    back_refused cause f_is is s' same y to_y agreed' =
        subst (λ (w : QueueSeatState). SomeRunAgrees (queue_size l) w.queue (joined_record w) → Adds l old (PutBack i f place (Refused cause) ∷ []) s' v w) (sym to_y) (λ agreed''. record {
          here = refl;
          joined = refl;
          pass = refl;
          seen = refl;
          completed = refl;
          found = refl;
          trace = refl;
          mine = refl;
          queue = refl;
          idle = h.idle;
          legal = ((is_gone, f_is, sym (λ k. reply_to_insert (is k) (has_irp (queue_of old.queue).flags i))), h.legal);
          list_is = record { listing_is = same ∙ h.list_is.listing_is; lives_are = h.list_is.lives_are; files_are = h.list_is.files_are; flags_used = h.list_is.flags_used };
          agreed = agreed'';
        }) agreed'

  module _ (f : FileId) (f_is : f ≡ (queue_of old.queue).file_of i.irp) (place : Place) (none' : back_refusal l (queue_of old.queue) i f ≡ None) (s' : Listing) (put : s' ≡ inserted place (plain (new_entry i f)) s) where
    pending : Pending ≡ reply_to_insert (back_refusal l (queue_of old.queue) i f) (has_irp (queue_of old.queue).flags i)
    pending = sym (λ k. reply_to_insert (none' k) (unflagged k))

    -- the list with the IRP
    relisted : IsListOf l s' v (record (queue_of old.queue) { entries = put_at place (new_entry i f) (queue_of old.queue).entries })
    relisted = record {
      listing_is = put ∙ (ap (inserted place (plain (new_entry i f))) h.list_is.listing_is ∙ listing-relisted l (queue_of old.queue) i f place here_now is_gone.0);
      lives_are = record { one_each = h.list_is.lives_are.one_each; each = h.list_is.lives_are.each };
      files_are = record { one_each = h.list_is.files_are.one_each; each = h.list_is.files_are.each };
      flags_used = h.list_is.flags_used;
    }

    module _ (r1 : List Tick) (agreed1 : let z = with_made (Rearm i) 0 [] r1 old in SomeRunAgrees (queue_size l) z.queue (joined_record z)) where
      -- the seat once the routine is set
      abbrev pub set_again : QueueSeatState
      set_again = with_made (Rearm i) 0 [] r1 old

      adds_set : Adds l old [] s v set_again
      adds_set = adds_more l old [] [] s s v v old (Rearm i) 0 r1 (adds_none t l s v old h) h.legal h.list_is agreed1

      makes_set : MakesSteps ((Rearm i, 0) ∷ []) (joined_record old) (joined_record set_again)
      makes_set = makes_more [] (joined_record old) (joined_record old) [] (Rearm i) 0 (makes_none (joined_record old) h.outside)

      -- the flag was clear
      pub back_pending : (r2 : List Tick) → (let y = with_made (Test i) 0 (PutBack i f place Pending ∷ []) r2 set_again in SomeRunAgrees (queue_size l) y.queue (joined_record y)
          → Adds l old (PutBack i f place Pending ∷ []) s' v y × MakesSteps (put_back_steps (Ok (answer.Pending i)) (queue_of y.queue)) (joined_record old) (joined_record y))
      back_pending r2 agreed2 =
          let y = with_made (Test i) 0 (PutBack i f place Pending ∷ []) r2 set_again in (
            adds_more l old [] (PutBack i f place Pending ∷ []) s s' v v set_again (Test i) 0 r2 adds_set ((is_gone, f_is, pending), h.legal) relisted agreed2,
            pending_steps Rearm i (queue_of y.queue) false (clear-put_at place i f (queue_of old.queue).entries is_gone.1) (joined_record old) (joined_record y)
                (makes_more ((Rearm i, 0) ∷ []) (joined_record old) (joined_record set_again) (PutBack i f place Pending ∷ []) (Test i) 0 makes_set),
          )

      module _ (r2 : List Tick) (agreed2 : let y = with_made (Test i) 1 [] r2 set_again in SomeRunAgrees (queue_size l) y.queue (joined_record y)) where
        -- the seat once the flag was found set
        abbrev pub seen_set : QueueSeatState
        seen_set = with_made (Test i) 1 [] r2 set_again

        adds_seen : Adds l old [] s v seen_set
        adds_seen = adds_more l old [] [] s s v v set_again (Test i) 1 r2 adds_set h.legal h.list_is agreed2

        makes_seen : MakesSteps ((Test i, 1) ∷ (Rearm i, 0) ∷ []) (joined_record old) (joined_record seen_set)
        makes_seen = makes_more ((Rearm i, 0) ∷ []) (joined_record old) (joined_record set_again) [] (Test i) 1 makes_set

        -- its canceller has taken the routine
        pub back_missed : (r3 : List Tick) → (let x = with_made (Disarm i) 0 (Mark i ∷ PutBack i f place Pending ∷ []) r3 seen_set in SomeRunAgrees (queue_size l) x.queue (joined_record x)
            → Adds l old (Mark i ∷ PutBack i f place Pending ∷ []) s' v x × MakesSteps (put_back_steps (Ok (answer.Pending i)) (queue_of x.queue)) (joined_record old) (joined_record x))
        back_missed r3 agreed3 =
            let es = Mark i ∷ PutBack i f place Pending ∷ [] in
            let x = with_made (Disarm i) 0 es r3 seen_set in
            let u = record (queue_of old.queue) { entries = put_at place (new_entry i f) (queue_of old.queue).entries } in (
              adds_more l old [] es s s' v v seen_set (Disarm i) 0 r3 adds_seen (placed_unmarked place i f (queue_of old.queue).entries, ((is_gone, f_is, pending), h.legal)) record {
                listing_is = relisted.listing_is ∙ listing-marked l u i;
                lives_are = record { one_each = h.list_is.lives_are.one_each; each = h.list_is.lives_are.each };
                files_are = record { one_each = h.list_is.files_are.one_each; each = h.list_is.files_are.each };
                flags_used = h.list_is.flags_used;
              } agreed3,
              pending_steps Rearm i (queue_of x.queue) true (one_marked i (put_at place (new_entry i f) (queue_of old.queue).entries) (listed-put_at place i f (queue_of old.queue).entries)) (joined_record old) (joined_record x)
                  (makes_more ((Test i, 1) ∷ (Rearm i, 0) ∷ []) (joined_record old) (joined_record seen_set) es (Disarm i) 0 makes_seen),
            )

        -- the routine was still there
        pub back_cancelled : (s'' : Listing) → s'' ≡ without_irp i.irp s' → (r3 : List Tick) → (let x = with_made (Disarm i) 1 (PutBack i f place Cancelled ∷ FlagSeen i ∷ []) r3 seen_set in SomeRunAgrees (queue_size l) x.queue (joined_record x)
            → Adds l old (PutBack i f place Cancelled ∷ FlagSeen i ∷ []) s'' v x × MakesSteps (put_back_steps (Ok (answer.Cancelled i)) (queue_of x.queue)) (joined_record old) (joined_record x))
        back_cancelled s'' out r3 agreed3 =
            let es = PutBack i f place Cancelled ∷ FlagSeen i ∷ [] in
            let reply : Cancelled ≡ reply_to_insert (back_refusal l (queue_of old.queue) i f) (same_irp i i || has_irp (queue_of old.queue).flags i) = sym ((λ k. reply_to_insert (none' k) (same_irp i i || has_irp (queue_of old.queue).flags i)) ∙ ap (λ b. reply_to_insert None (b || has_irp (queue_of old.queue).flags i)) (same_irp-refl i)) in (
              adds_more l old [] es s s'' v v seen_set (Disarm i) 1 r3 adds_seen ((is_gone, f_is, reply), (tt, h.legal)) record {
                listing_is = out ∙ (ap (without_irp i.irp) (put ∙ ap (inserted place (plain (new_entry i f))) h.list_is.listing_is) ∙ listing-put_and_taken l (queue_of old.queue) i f place here_now is_gone.0 lives_are is_gone.1);
                lives_are = record { one_each = h.list_is.lives_are.one_each; each = h.list_is.lives_are.each };
                files_are = record { one_each = h.list_is.files_are.one_each; each = h.list_is.files_are.each };
                flags_used = flags_stay;
              } agreed3,
              makes_more ((Test i, 1) ∷ (Rearm i, 0) ∷ []) (joined_record old) (joined_record seen_set) es (Disarm i) 1 makes_seen,
            )
          where
            flags_stay : (j : IrpLife) → has_irp (i ∷ (queue_of old.queue).flags) j ≡ true → has_irp (queue_of old.queue).used j ≡ true
            flags_stay j = by_value (λ b. (b || has_irp (queue_of old.queue).flags j) ≡ true → has_irp (queue_of old.queue).used j ≡ true) (same_irp i j)
                (λ e g. ap (has_irp (queue_of old.queue).used) (sym (same_irp-eq i j e)) ∙ is_gone.0)
                (λ _ g. h.list_is.flags_used j g)
