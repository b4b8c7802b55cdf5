-- Between two calls the pass holds only what it got by removals.
use Rattle.std.proofs.Common.{◌≡◌, ℕ, Bool, true, false, cond, not, ◌&&◌, ◌||◌, ◌==◌, List, [], ◌∷◌, refl}
use Rattle.csq_replay.proofs.Imports.{by_value, FileId, IrpId, NtStatus, CANCELLED, Kind, Arm, Test, Disarm, End, Flag, Take, Out, Done, Renew, Rearm, Made, Inside, Nothing, Removing, Cancelling, same_irp, same_pass, IrpLife, bit, armed, inside, inside_after, in_insert, holds, removed, same_pass-refl, Peek, File, matches, Queued, Limits, has_unmarked, has_marked, ScriptCall, Next, Mark, Routine, Complete, Close, Reply, Removed, NoIrp, Claimed, Unclaimed, Completed, Closed, Script, script_pass, present_of, next_step, after_steps, removal_steps, named_removal_steps, Calls, Cleans, Does, refuses_insert, lists, cancels_insert, removes_next, removes, removes_none, claims, claims_none, runs_routine, has_no_claim, completes, holds_none, refuses_pending, refuses_put_back, puts_back, cancels_put_back, closes, is_stale, reuses, not_completed, lives_spent, reports_flag, reports_status, knows_no_irp, knows_no_file, none_left, one_more, calls, cancel_claimed, cancel_unclaimed, cleaned, HoldsRemoved}

-- the pass isn't inside of an insert or a put-back
abbrev IsNoInsert : List Made → Type 0
IsNoInsert E = in_insert (inside E script_pass) ≡ false

-- a step that gives the pass no IRP
abbrev gives_none : Kind → Bool
gives_none (Disarm i) = false
gives_none (Out i) = false
gives_none _ = true

module _ (E : List Made) (h : HoldsRemoved E) where
  one_step : (k : Kind) → gives_none k ≡ true → HoldsRemoved (next_step E k)
  one_step (Disarm i) n j held = absurd cc
  one_step (Out i) n j held = absurd cc
  one_step (Done i) n j held = by_value (λ b. (not ((b || false) && same_pass script_pass script_pass) && holds E script_pass j) ≡ true → removed E j ≡ true) (same_irp i j)
      (λ _ held. absurd (cc (rw same_pass-refl at held)))
      (λ _ held. h j held) held
  one_step (Rearm i) n j held = by_value (λ b. (not (b && same_pass script_pass script_pass) && holds E script_pass j) ≡ true → (not b && removed E j) ≡ true) (same_irp i j)
      (λ _ held. absurd (cc (rw same_pass-refl at held)))
      (λ _ held. h j held) held
  one_step k n j held = h j held

  -- a removal's Disarm
  disarm_step : (i : IrpLife) → IsNoInsert E → HoldsRemoved (next_step E (Disarm i))
  disarm_step i outside j held = by_value (λ b. (((b || false) && same_pass script_pass script_pass) || holds E script_pass j) ≡ true → ((b && not (in_insert (inside E script_pass))) || removed E j) ≡ true) (same_irp i j && (bit (armed E i) == 1))
      (λ _ held. rw outside refl)
      (λ _ held. h j held) held

-- what is got otherwise is completed at once
completed_step : (F : List Made) (i : IrpLife) → ((j : IrpLife) → same_irp i j ≡ false → holds F script_pass j ≡ true → removed F j ≡ true) → HoldsRemoved (next_step F (Done i))
completed_step F i others j held = by_value (λ b. (not ((b || false) && same_pass script_pass script_pass) && holds F script_pass j) ≡ true → removed F j ≡ true) (same_irp i j)
    (λ _ held. absurd (cc (rw same_pass-refl at held)))
    (λ e held. others j e held) held

-- what a removal goes on from is no insert
after_disarm_outside : (x : Inside) (i : IrpLife) (v : ℕ) → in_insert x ≡ false → in_insert (inside_after x (Disarm i) v) ≡ false
after_disarm_outside x i v outside = go x outside
  where
    two : (b : Bool) → in_insert (cond b Removing Nothing) ≡ false
    two true = refl
    two false = refl

    go : (x : Inside) → in_insert x ≡ false → in_insert (inside_after x (Disarm i) v) ≡ false
    go Nothing e = two (v == 0)
    go Removing e = two (v == 0)
    go (Cancelling j) e = two (v == 0)
    go x e = absurd cc

still_outside : (E : List Made) (i : IrpLife) → IsNoInsert E → IsNoInsert (next_step E (Disarm i))
still_outside E i outside = rw same_pass-refl (after_disarm_outside (inside E script_pass) i _ outside)

removal_steps_kept : (k : Peek) (es : List Queued) (E : List Made) → IsNoInsert E → HoldsRemoved E → HoldsRemoved (after_steps (removal_steps k es) E)
removal_steps_kept k [] E outside h = one_step E h End refl
removal_steps_kept k (e ∷ es) E outside h = go (removal_steps_kept k es) (matches k e.file) e.marked
  where
    go : ((F : List Made) → IsNoInsert F → HoldsRemoved F → HoldsRemoved (after_steps (removal_steps k es) F)) → (b m : Bool)
        → HoldsRemoved (after_steps (cond b (Disarm e.irp ∷ cond m (removal_steps k es) []) (removal_steps k es)) E)
    go rest false m = rest E outside h
    go rest true true = rest (next_step E (Disarm e.irp)) (still_outside E e.irp outside) (disarm_step E h e.irp outside)
    go rest true false = disarm_step E h e.irp outside

named_steps_kept : (i : IrpLife) (es : List Queued) (E : List Made) → IsNoInsert E → HoldsRemoved E → HoldsRemoved (after_steps (named_removal_steps i es) E)
named_steps_kept i es E outside h = go (has_unmarked es i) (has_marked es i)
  where
    go : (u m : Bool) → HoldsRemoved (after_steps (cond u (Disarm i ∷ []) (cond m (Disarm i ∷ End ∷ []) (End ∷ []))) E)
    go true m = disarm_step E h i outside
    go false true = one_step (next_step E (Disarm i)) (disarm_step E h i outside) End refl
    go false false = one_step E h End refl

-- an insert's or a put-back's own exchange, and the completion after it
taken_back : (E : List Made) (i : IrpLife) → HoldsRemoved E → HoldsRemoved (next_step (next_step E (Disarm i)) (Done i))
taken_back E i h = completed_step (next_step E (Disarm i)) i others
  where
    others : (j : IrpLife) → same_irp i j ≡ false → holds (next_step E (Disarm i)) script_pass j ≡ true → removed (next_step E (Disarm i)) j ≡ true
    others j other held = rw other (h j (rw other at held))

taken_out : (E : List Made) (i : IrpLife) → HoldsRemoved E → HoldsRemoved (next_step (next_step E (Out i)) (Done i))
taken_out E i h = completed_step (next_step E (Out i)) i (λ j other held. h j (rw other at held))

two_steps : (E : List Made) → HoldsRemoved E → (k j : Kind) → gives_none k ≡ true → gives_none j ≡ true → HoldsRemoved (next_step (next_step E k) j)
two_steps E h k j a b = one_step (next_step E k) (one_step E h k a) j b

calls_kept : (l : Limits) (s t : Script) (c : ScriptCall) (r : Reply) → Calls l s c r t → IsNoInsert s.run → HoldsRemoved s.run → HoldsRemoved t.run
calls_kept l s t c r (refuses_insert n f place cause may) outside h = h
calls_kept l s t c r (lists n f place may) outside h = two_steps s.run h (Arm (present_of s n)) (Test (present_of s n)) refl refl
calls_kept l s t c r (cancels_insert n f place may) outside h = taken_back (after_steps (Arm (present_of s n) ∷ Test (present_of s n) ∷ []) s.run) (present_of s n) (two_steps s.run h (Arm (present_of s n)) (Test (present_of s n)) refl refl)
calls_kept l s t c r (removes_next k got may) outside h = removal_steps_kept k s.queue.entries s.run outside h
calls_kept l s t c r (removes i known may) outside h = named_steps_kept i s.queue.entries s.run outside h
calls_kept l s t c r (removes_none i known may) outside h = named_steps_kept i s.queue.entries s.run outside h
calls_kept l s t c r (claims i known now found may) outside h = two_steps s.run h (Flag i) (Take i) refl refl
calls_kept l s t c r (claims_none i known now found) outside h = two_steps s.run h (Flag i) (Take i) refl refl
calls_kept l s t c r (runs_routine n known owed may) outside h = taken_out s.run (present_of s n) h
calls_kept l s t c r (completes n status known held final) outside h = one_step s.run h (Done (present_of s n)) refl
calls_kept l s t c r (puts_back n place known held may) outside h = two_steps s.run h (Rearm (present_of s n)) (Test (present_of s n)) refl refl
calls_kept l s t c r (cancels_put_back n place known held may) outside h = taken_back (after_steps (Rearm (present_of s n) ∷ Test (present_of s n) ∷ []) s.run) (present_of s n) (two_steps s.run h (Rearm (present_of s n)) (Test (present_of s n)) refl refl)
calls_kept l s t c r (closes f known) outside h = h
calls_kept l s t c r (reuses n status known reported room may) outside h = one_step s.run h (Renew (present_of s n)) refl
calls_kept l s t c r (is_stale c' i names known stale) outside h = h
calls_kept l s t c r (has_no_claim n known none) outside h = h
calls_kept l s t c r (holds_none c' n takes known none) outside h = h
calls_kept l s t c r (refuses_pending n known held) outside h = h
calls_kept l s t c r (refuses_put_back n place cause known held may) outside h = h
calls_kept l s t c r (reports_flag n known) outside h = h
calls_kept l s t c r (reports_status n known) outside h = h
calls_kept l s t c r (not_completed n known none) outside h = h
calls_kept l s t c r (lives_spent n status known reported last) outside h = h
calls_kept l s t c r (knows_no_irp c' n names le) outside h = h
calls_kept l s t c r (knows_no_file c' f names le) outside h = h

-- after a completion the pass is inside of nothing
completed_kept : (l : Limits) (s t : Script) (i : IrpId) (status reported : NtStatus) → Calls l s (Complete i status) (Completed reported) t → HoldsRemoved s.run → IsNoInsert t.run × HoldsRemoved t.run
completed_kept l s t i status reported (completes n x known held final) h = (rw same_pass-refl refl, one_step s.run h (Done (present_of s n)) refl)

cleans_kept : (l : Limits) (f : FileId) (s t : Script) (n : ℕ) → Cleans l f s n t → IsNoInsert s.run → HoldsRemoved s.run → HoldsRemoved t.run
cleans_kept l f s t n (none_left s' t' next) outside h = calls_kept l s t (Next (File f)) NoIrp next outside h
cleans_kept l f s t n (one_more i s' u v w m next complete rest) outside h =
    let done = completed_kept l u v i CANCELLED CANCELLED complete (calls_kept l s u (Next (File f)) (Removed i) next outside h) in
    cleans_kept l f v t m rest done.0 done.1

routine_kept : (l : Limits) (s t : Script) (n : IrpId) (status : NtStatus) → Calls l s (Routine n) (Completed status) t → HoldsRemoved s.run → HoldsRemoved t.run
routine_kept l s t n status (runs_routine m known owed may) h = taken_out s.run (present_of s m) h

-- what a call leads to holds only what removals got
pub does_kept : (l : Limits) (s t : Script) (c : ScriptCall) (r : Reply) → Does l s c r t → inside s.run script_pass ≡ Nothing → HoldsRemoved s.run → HoldsRemoved t.run
does_kept l s t c r (calls c' r' t' call) outside h = calls_kept l s t c r call (rw outside refl) h
does_kept l s t c r (cancel_claimed i u v mark routine) outside h = routine_kept l u t i.irp CANCELLED routine (calls_kept l s u (Mark i) Claimed mark (rw outside refl) h)
does_kept l s t c r (cancel_unclaimed i u mark) outside h = calls_kept l s t (Mark i) Unclaimed mark (rw outside refl) h
does_kept l s t c r (cleaned f u v n close cleans) outside h = cleans_kept l f u t n cleans (closed_outside u close) (calls_kept l s u (Close f) Closed close (rw outside refl) h)
  where
    closed_outside : (u : Script) → Calls l s (Close f) Closed u → IsNoInsert u.run
    closed_outside u (closes g known) = rw outside refl
