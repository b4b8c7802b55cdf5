-- A script has one answer.
use Rattle.std.proofs.Common.{◌≡◌, ℕ, zero, suc, ◌+◌, ◌<◌, ◌≤◌, ◌==◌, ◌⊎◌, inl, inr, Bool, true, false, cond, List, [], ◌∷◌, Option, Some, None, ltb, eq-eqb, refl, ap, sym, ◌∙◌, subst, arith}
use Rattle.csq_replay.proofs.Imports.{lt-ltb, le-ltb, ne_eqb, FileId, IrpId, last_life, same_irp-is, same_irp-not, NtStatus, PENDING, CANCELLED, number, same_irp, IrpLife, flagged, found_by, owes, holds, status_recorded, Place, Peek, File, Limits, has_irp, has_unmarked, first_unmarked, refusal, back_refusal, reply_to_insert, ScriptCall, UnknownIrp, UnknownFile, NoClaim, NotHeld, StatusPending, Stale, NotCompleted, LivesSpent, Reply, Pending, Cancelled, InsertRefused, Removed, NoIrp, Claimed, Unclaimed, Completed, Closed, Cleaned, Begun, Refused, Script, script_pass, new_script, present_of, IsPresentOf, life_now, life_after, after_reuse, cancelled_life, doing, completing, removal_steps, named_removal_steps, removal_reply, status_reply, irp_of, token_of, file_of, after_mark, Calls, Cleans, Does, refuses_insert, lists, cancels_insert, removes_next, removes, removes_none, claims, claims_none, runs_routine, has_no_claim, completes, holds_none, refuses_pending, refuses_put_back, puts_back, cancels_put_back, closes, is_stale, reuses, not_completed, lives_spent, reports_flag, reports_status, knows_no_irp, knows_no_file, none_left, one_more, calls, cancel_claimed, cancel_unclaimed, cleaned, Ended, IsAnswer, ReportsCall, going_on, call_text, closing_lines, HasOneScriptAnswer}
use Rattle.irp_core.specs.declared.step.Kind.TheVariants as step
use Rattle.csq_words.specs.declared.views.InsertReply.{InsertReply}
use Rattle.csq_words.specs.declared.views.InsertReply.TheVariants as insert
use Rattle.csq_words.specs.declared.views.Event.TheVariants as event
use Rattle.csq_replay.specs.declared.script.call.ScriptCall.TheVariants.{Insert, Next, Remove, Mark, Routine, Cancel, Complete, Close, Cleanup, Flag, Status, Reuse, PutBack}
use Rattle.csq_replay.specs.declared.script.call.Reply.TheVariants as reply
use Rattle.csq_replay.specs.declared.script.outcome.CallStop.TheVariants.{TooLong, Malformed}
use Rattle.csq_replay.specs.declared.script.outcome.CallOutcome.{CallOutcome}
use Rattle.csq_replay.specs.declared.script.outcome.CallOutcome.TheVariants.{Skipped, Answered, Stopped}
use Rattle.csq_replay.specs.CallOutcomes.{CallComesTo}
use Rattle.csq_replay.proofs.Answering.{one_input_answer}
use Rattle.csq_replay.proofs.OneCall.{same_call, call_not_skipped, call_is_within}

-- what is answered, and the script after it
abbrev Outcome : Type 0
Outcome = Reply × Script

abbrev inserted : IrpId → FileId → Place → Script → InsertReply → Outcome
inserted n f place s insert.Pending = (Pending, doing (step.Arm (present_of s n) ∷ step.Test (present_of s n) ∷ []) (event.Insert n f place insert.Pending) s)
inserted n f place s insert.Cancelled =
    (Cancelled, completing (present_of s n) CANCELLED (doing (step.Arm (present_of s n) ∷ step.Test (present_of s n) ∷ step.Disarm (present_of s n) ∷ []) (event.Insert n f place insert.Cancelled) s))
inserted n f place s (insert.Refused cause) = (InsertRefused cause, s)

abbrev put_back : IrpId → Place → Script → InsertReply → Outcome
put_back n place s insert.Pending = (Pending, doing (step.Rearm (present_of s n) ∷ step.Test (present_of s n) ∷ []) (event.PutBack (present_of s n) (s.queue.file_of n) place insert.Pending) s)
put_back n place s insert.Cancelled =
    (Cancelled, completing (present_of s n) CANCELLED (doing (step.Rearm (present_of s n) ∷ step.Test (present_of s n) ∷ step.Disarm (present_of s n) ∷ []) (event.PutBack (present_of s n) (s.queue.file_of n) place insert.Cancelled) s))
put_back n place s (insert.Refused cause) = (InsertRefused cause, s)

abbrev removed_next : Peek → Script → Option IrpLife → Outcome
removed_next k s got = (removal_reply got, doing (removal_steps k s.queue.entries) (event.RemoveNext k got) s)

abbrev removed : IrpLife → Script → Bool → Outcome
removed i s true = (Removed i.irp, doing (named_removal_steps i s.queue.entries) (event.Remove i true) s)
removed i s false = (NoIrp, doing (named_removal_steps i s.queue.entries) (event.Remove i false) s)

abbrev marked : IrpLife → Script → ℕ → Outcome
marked i s zero = (Unclaimed, after_mark i s)
marked i s (suc n) = (Claimed, doing [] (event.Mark i) (after_mark i s))

abbrev routine_run : IrpId → Script → Bool → Outcome
routine_run n s true = (Completed CANCELLED, completing (present_of s n) CANCELLED (doing (step.Out (present_of s n) ∷ []) (event.Out (present_of s n)) s))
routine_run n s false = (Refused NoClaim, s)

abbrev completed_with : IrpId → NtStatus → Script → Bool → Outcome
completed_with n status s true = (Refused StatusPending, s)
completed_with n status s false = (Completed status, completing (present_of s n) status s)

abbrev reused : IrpId → Script → Option NtStatus → Bool → Outcome
reused n s None room = (Refused NotCompleted, s)
reused n s (Some status) true = (Begun (life_after s n), after_reuse n s)
reused n s (Some status) false = (Refused LivesSpent, s)

abbrev if_held : Script → Bool → Outcome → Outcome
if_held s held outcome = cond held outcome (Refused NotHeld, s)

abbrev of_known : Limits → Script → IrpId → Outcome → Outcome
of_known l s n outcome = cond (ltb n.0 l.irps) outcome (Refused UnknownIrp, s)

abbrev if_now : Script → IrpLife → Outcome → Outcome
if_now s i outcome = cond (same_irp (present_of s i.irp) i) outcome (Refused (Stale (life_now s i.irp)), s)

-- what a call that isn't made of others comes to
abbrev outcome : Limits → Script → ScriptCall → Outcome
outcome l s (Insert n f place) = inserted n f place s (reply_to_insert (refusal l s.queue n f) (has_irp s.queue.flags (present_of s n)))
outcome l s (Next k) = removed_next k s (first_unmarked k s.queue.entries)
outcome l s (Remove i) = of_known l s i.irp (removed i s (has_unmarked s.queue.entries i))
outcome l s (Mark i) = of_known l s i.irp (if_now s i (marked i s (found_by s.run (step.Take i))))
outcome l s (Routine n) = of_known l s n (routine_run n s (owes s.run script_pass (present_of s n)))
outcome l s (Cancel i) = of_known l s i.irp (Refused (Stale (life_now s i.irp)), s)
outcome l s (Complete n status) = of_known l s n (if_held s (holds s.run script_pass (present_of s n)) (completed_with n status s (status.0 == PENDING.0)))
outcome l s (Close f) = cond (ltb f.0 l.files) (Closed, doing [] (event.CloseFile f) s) (Refused UnknownFile, s)
outcome l s (Cleanup f) = (Refused UnknownFile, s)
outcome l s (Flag n) = of_known l s n (reply.Flag (flagged s.run (present_of s n)), s)
outcome l s (Status n) = of_known l s n (status_reply (status_recorded (present_of s n) s.completed), s)
outcome l s (Reuse n) = of_known l s n (reused n s (status_recorded (present_of s n) s.completed) (ltb (s.queue.lives n) last_life))
outcome l s (PutBack n place) =
    of_known l s n (if_held s (holds s.run script_pass (present_of s n)) (put_back n place s (reply_to_insert (back_refusal l s.queue (present_of s n) (s.queue.file_of n)) (has_irp s.queue.flags (present_of s n)))))

module _ (l : Limits) (s : Script) where
  known : (n : IrpId) → n.0 < l.irps → (x y : Outcome) → x ≡ y → x ≡ of_known l s n y
  known n lt x y e = rw (lt-ltb n.0 l.irps lt) e

  beyond : (n m : IrpId) → n ≡ m → l.irps ≤ m.0 → (y : Outcome) → (Refused UnknownIrp, s) ≡ of_known l s n y
  beyond n m same le y = rw (le-ltb n.0 l.irps (omega (arith, le, ap (λ (x : IrpId). x.0) same))) refl

  now_is : (i : IrpLife) → IsPresentOf s i → (y : Outcome) → y ≡ if_now s i y
  now_is i now y = rw (same_irp-is (present_of s i.irp) i now) refl

  stale_is : (i : IrpLife) → ¬ IsPresentOf s i → (y : Outcome) → (Refused (Stale (life_now s i.irp)), s) ≡ if_now s i y
  stale_is i stale y = rw (same_irp-not (present_of s i.irp) i stale) refl

  stale_call : (c : ScriptCall) (i : IrpLife) → cancelled_life c ≡ Some i → number i < l.irps → ¬ IsPresentOf s i → (Refused (Stale (life_now s i.irp)), s) ≡ outcome l s c
  stale_call (Mark j) i e lt stale =
      let same : i ≡ j = cc e in
      let P : IrpLife → Type 0 = λ x. (Refused (Stale (life_now s i.irp)), s) ≡ outcome l s (Mark x) in
      subst P same (known i.irp lt _ _ (stale_is i stale _))
  stale_call (Cancel j) i e lt stale =
      let same : i ≡ j = cc e in
      let P : IrpLife → Type 0 = λ x. (Refused (Stale (life_now s i.irp)), s) ≡ outcome l s (Cancel x) in
      subst P same (known i.irp lt _ _ refl)
  stale_call c i e lt stale = absurd (cc e)

  held_is : (b : Bool) → b ≡ true → (x y : Outcome) → x ≡ y → x ≡ if_held s b y
  held_is b held x y e = rw held e

  not_held : (c : ScriptCall) (n : IrpId) → token_of c ≡ Some n → n.0 < l.irps → holds s.run script_pass (present_of s n) ≡ false → (Refused NotHeld, s) ≡ outcome l s c
  not_held (Complete m status) n e lt none =
      let same : n ≡ m = cc e in
      let P : IrpId → Type 0 = λ x. (Refused NotHeld, s) ≡ outcome l s (Complete x status) in
      subst P same (known n lt _ _ (rw none refl))
  not_held (PutBack m place) n e lt none =
      let same : n ≡ m = cc e in
      let P : IrpId → Type 0 = λ x. (Refused NotHeld, s) ≡ outcome l s (PutBack x place) in
      subst P same (known n lt _ _ (rw none refl))
  not_held c n e lt none = absurd (cc e)

  unknown_irp : (c : ScriptCall) (n : IrpId) → irp_of c ≡ Some n → l.irps ≤ n.0 → (Refused UnknownIrp, s) ≡ outcome l s c
  unknown_irp (Remove j) n e le = beyond j.irp n (cc e) le _
  unknown_irp (Mark j) n e le = beyond j.irp n (cc e) le _
  unknown_irp (Routine j) n e le = beyond j n (cc e) le _
  unknown_irp (Cancel j) n e le = beyond j.irp n (cc e) le _
  unknown_irp (Complete j status) n e le = beyond j n (cc e) le _
  unknown_irp (Flag j) n e le = beyond j n (cc e) le _
  unknown_irp (Status j) n e le = beyond j n (cc e) le _
  unknown_irp (Reuse j) n e le = beyond j n (cc e) le _
  unknown_irp (PutBack j place) n e le = beyond j n (cc e) le _
  unknown_irp c n e le = absurd (cc e)

  unknown_file : (c : ScriptCall) (f : FileId) → file_of c ≡ Some f → l.files ≤ f.0 → (Refused UnknownFile, s) ≡ outcome l s c
  unknown_file (Close g) f e le = let same : g ≡ f = cc e in rw (le-ltb g.0 l.files (omega (arith, le, ap (λ (x : FileId). x.0) same))) refl
  unknown_file (Cleanup g) f e le = refl
  unknown_file c f e le = absurd (cc e)

  calls_outcome : (c : ScriptCall) (r : Reply) (t : Script) → Calls l s c r t → (r, t) ≡ outcome l s c
  calls_outcome c r t (refuses_insert n f place cause may) = ap (inserted n f place s) may
  calls_outcome c r t (lists i f place may) = ap (inserted i f place s) may
  calls_outcome c r t (cancels_insert i f place may) = ap (inserted i f place s) may
  calls_outcome c r t (removes_next k got may) = ap (removed_next k s) may
  calls_outcome c r t (removes i lt may) = known i.irp lt _ _ (ap (removed i s) may)
  calls_outcome c r t (removes_none i lt may) = known i.irp lt _ _ (ap (removed i s) may)
  calls_outcome c r t (claims i lt now found may) = known i.irp lt _ _ (ap (marked i s) (sym found) ∙ now_is i now _)
  calls_outcome c r t (claims_none i lt now found) = known i.irp lt _ _ (ap (marked i s) (sym found) ∙ now_is i now _)
  calls_outcome c r t (is_stale c' i names lt stale) = stale_call c i names lt stale
  calls_outcome c r t (runs_routine i lt owed may) = known i lt _ _ (ap (routine_run i s) (sym owed))
  calls_outcome c r t (has_no_claim i lt none) = known i lt _ _ (ap (routine_run i s) (sym none))
  calls_outcome c r t (completes i status lt held final) =
      let differ : (status.0 == PENDING.0) ≡ false = ne_eqb status.0 PENDING.0 (λ e. let named : ℕ → NtStatus = λ n. record { 0 = n } in final (ap named e)) in
      known i lt _ _ (held_is _ held _ _ (ap (completed_with i status s) (sym differ)))
  calls_outcome c r t (holds_none c' i takes lt none) = not_held c i takes lt none
  calls_outcome c r t (refuses_pending i lt held) = known i lt _ _ (held_is _ held _ _ (ap (completed_with i PENDING s) (sym (eq-eqb PENDING.0 PENDING.0 refl))))
  calls_outcome c r t (refuses_put_back i place cause lt held may) = known i lt _ _ (held_is _ held _ _ (ap (put_back i place s) may.2))
  calls_outcome c r t (puts_back i place lt held may) = known i lt _ _ (held_is _ held _ _ (ap (put_back i place s) may.2))
  calls_outcome c r t (cancels_put_back i place lt held may) = known i lt _ _ (held_is _ held _ _ (ap (put_back i place s) may.2))
  calls_outcome c r t (closes f lt) = rw (lt-ltb f.0 l.files lt) refl
  calls_outcome c r t (reports_flag i lt) = known i lt _ _ refl
  calls_outcome c r t (reports_status i lt) = known i lt _ _ refl
  calls_outcome c r t (reuses n status lt reported room may) =
      known n lt _ _ (ap (reused n s (Some status)) (sym (lt-ltb (s.queue.lives n) last_life room)) ∙ ap (λ o. reused n s o (ltb (s.queue.lives n) last_life)) (sym reported))
  calls_outcome c r t (not_completed n lt none) = known n lt _ _ (ap (λ o. reused n s o (ltb (s.queue.lives n) last_life)) (sym none))
  calls_outcome c r t (lives_spent n status lt reported last) =
      known n lt _ _ (ap (reused n s (Some status)) (sym (le-ltb (s.queue.lives n) last_life last)) ∙ ap (λ o. reused n s o (ltb (s.queue.lives n) last_life)) (sym reported))
  calls_outcome c r t (knows_no_irp c' i names le) = unknown_irp c i names le
  calls_outcome c r t (knows_no_file c' f names le) = unknown_file c f names le

  calls_one : (c : ScriptCall) (r r' : Reply) (t t' : Script) → Calls l s c r t → Calls l s c r' t' → (r ≡ r') × (t ≡ t')
  calls_one c r r' t t' a b =
      let e = calls_outcome c r t a ∙ sym (calls_outcome c r' t' b) in
      (ap (λ (x : Outcome). x.0) e, ap (λ (x : Outcome). x.1) e)

  -- a call that is made of others is of what is known
  cancel_unknown : (i : IrpLife) (r : Reply) (t : Script) → Calls l s (Cancel i) r t → (l.irps ≤ number i) ⊎ (¬ IsPresentOf s i)
  cancel_unknown i r t (knows_no_irp c j names le) = let same : i.irp ≡ j = cc names in inl (omega (arith, le, ap (λ (x : IrpId). x.0) same))
  cancel_unknown i r t (is_stale c j names known stale) = let same : j ≡ i = cc names in inr (let P : IrpLife → Type 0 = λ x. ¬ IsPresentOf s x in subst P same stale)
  cancel_unknown i r t (knows_no_file c f names le) = absurd (cc names)
  cancel_unknown i r t (holds_none c n takes lt none) = absurd (cc takes)

  cleanup_unknown : (f : FileId) (r : Reply) (t : Script) → Calls l s (Cleanup f) r t → l.files ≤ f.0
  cleanup_unknown f r t (is_stale c i names known stale) = absurd (cc names)
  cleanup_unknown f r t (holds_none c n takes lt none) = absurd (cc takes)
  cleanup_unknown f r t (knows_no_irp c i names le) = absurd (cc names)
  cleanup_unknown f r t (knows_no_file c g names le) = let same : f ≡ g = cc names in omega (arith, le, ap (λ (x : FileId). x.0) same)

  claimed_known : (i : IrpLife) (t : Script) → Calls l s (Mark i) Claimed t → (number i < l.irps) × IsPresentOf s i
  claimed_known i t (claims j lt now found may) = (lt, now)

  unclaimed_known : (i : IrpLife) (t : Script) → Calls l s (Mark i) Unclaimed t → (number i < l.irps) × IsPresentOf s i
  unclaimed_known i t (claims_none j lt now found) = (lt, now)

  -- no life is both
  not_both : (i : IrpLife) → (l.irps ≤ number i) ⊎ (¬ IsPresentOf s i) → (number i < l.irps) × IsPresentOf s i → ⊥
  not_both i (inl le) (lt, now) = omega (arith, le, lt)
  not_both i (inr stale) (lt, now) = stale now

  closed_known : (f : FileId) (t : Script) → Calls l s (Close f) Closed t → f.0 < l.files
  closed_known f t (closes g lt) = lt

module _ (l : Limits) where
  cleans_one : (f : FileId) (s t t' : Script) (n n' : ℕ) → Cleans l f s n t → Cleans l f s n' t' → (n ≡ n') × (t ≡ t')
  cleans_one f s t t' n n' (none_left a b none) (none_left a' b' none') = (refl, (calls_one l s (Next (File f)) NoIrp NoIrp t t' none none').1)
  cleans_one f s t t' n n' (none_left a b none) (one_more i a' u v w m next complete rest) = absurd (cc ((calls_one l s (Next (File f)) NoIrp (Removed i) t u none next).0))
  cleans_one f s t t' n n' (one_more i a u v w m next complete rest) (none_left a' b' none) = absurd (cc ((calls_one l s (Next (File f)) (Removed i) NoIrp u t' next none).0))
  cleans_one f s t t' n n' (one_more i a u v w m next complete rest) (one_more i' a' u' v' w' m' next' complete' rest') =
      let one = calls_one l s (Next (File f)) (Removed i) (Removed i') u u' next next' in
      let irp : i' ≡ i = cc one.0 in
      let P : IrpId → Type 0 = λ j. Calls l u' (Complete j CANCELLED) (Completed CANCELLED) v' in
      let Q : Script → Type 0 = λ x. Calls l x (Complete i CANCELLED) (Completed CANCELLED) v' in
      let two = calls_one l u (Complete i CANCELLED) (Completed CANCELLED) (Completed CANCELLED) v v' complete (subst Q (sym one.1) (subst P irp complete')) in
      let R : Script → Type 0 = λ x. Cleans l f x m' t' in
      let more = cleans_one f v t t' m m' rest (subst R (sym two.1) rest') in
      (ap (λ k. k + 1) more.0, more.1)

  does_one : (s : Script) (c : ScriptCall) (r r' : Reply) (t t' : Script) → Does l s c r t → Does l s c r' t' → (r ≡ r') × (t ≡ t')
  does_one s c r r' t t' (calls c1 r1 t1 a) (calls c2 r2 t2 b) = calls_one l s c r r' t t' a b
  does_one s c r r' t t' (calls c1 r1 t1 a) (cancel_claimed i u v mark routine) = absurd (not_both l s i (cancel_unknown l s i r t a) (claimed_known l s i u mark))
  does_one s c r r' t t' (calls c1 r1 t1 a) (cancel_unclaimed i u mark) = absurd (not_both l s i (cancel_unknown l s i r t a) (unclaimed_known l s i t' mark))
  does_one s c r r' t t' (calls c1 r1 t1 a) (cleaned f u v n close cleans) = absurd (omega (arith, cleanup_unknown l s f r t a, closed_known l s f u close))
  does_one s c r r' t t' (cancel_claimed i u v mark routine) (calls c1 r1 t1 a) = absurd (not_both l s i (cancel_unknown l s i r' t' a) (claimed_known l s i u mark))
  does_one s c r r' t t' (cancel_unclaimed i u mark) (calls c1 r1 t1 a) = absurd (not_both l s i (cancel_unknown l s i r' t' a) (unclaimed_known l s i t mark))
  does_one s c r r' t t' (cleaned f u v n close cleans) (calls c1 r1 t1 a) = absurd (omega (arith, cleanup_unknown l s f r' t' a, closed_known l s f u close))
  does_one s c r r' t t' (cancel_claimed i u v mark routine) (cancel_claimed i' u' v' mark' routine') =
      let one = calls_one l s (Mark i) Claimed Claimed u u' mark mark' in
      let P : Script → Type 0 = λ x. Calls l x (Routine i.irp) (Completed CANCELLED) t' in
      (refl, (calls_one l u (Routine i.irp) (Completed CANCELLED) (Completed CANCELLED) t t' routine (subst P (sym one.1) routine')).1)
  does_one s c r r' t t' (cancel_claimed i u v mark routine) (cancel_unclaimed i' u' mark') = absurd (cc ((calls_one l s (Mark i) Claimed Unclaimed u t' mark mark').0))
  does_one s c r r' t t' (cancel_unclaimed i u mark) (cancel_claimed i' u' v' mark' routine') = absurd (cc ((calls_one l s (Mark i) Unclaimed Claimed t u' mark mark').0))
  does_one s c r r' t t' (cancel_unclaimed i u mark) (cancel_unclaimed i' u' mark') = (refl, (calls_one l s (Mark i) Unclaimed Unclaimed t t' mark mark').1)
  does_one s c r r' t t' (cleaned f u v n close cleans) (cleaned f' u' v' n' close' cleans') =
      let one = calls_one l s (Close f) Closed Closed u u' close close' in
      let P : Script → Type 0 = λ x. Cleans l f x n' t' in
      let more = cleans_one f u t t' n n' cleans (subst P (sym one.1) cleans') in
      (ap Cleaned more.0, more.1)

  -- what comes of a line is one, and so is the script after it
  one_outcome : (s : Script) (line : List ℕ) (o p : CallOutcome) (t u : Script) → CallComesTo l s line o t → CallComesTo l s line p u → (o ≡ p) × (t ≡ u)
  one_outcome s line Skipped Skipped t u a b = (refl, a.2 ∙ sym b.2)
  one_outcome s line Skipped (Answered d q) t u a b = absurd (call_not_skipped line d b.0 a.1)
  one_outcome s line Skipped (Stopped TooLong) t u a b = absurd (omega (arith, a.0, b.0))
  one_outcome s line Skipped (Stopped Malformed) t u a b = absurd (b.1 a.1)
  one_outcome s line (Answered c r) Skipped t u a b = absurd (call_not_skipped line c a.0 b.1)
  one_outcome s line (Answered c r) (Answered d q) t u a b =
      let P : ScriptCall → Type 0 = λ x. Does l s x q u in
      let one = does_one s c r q t u a.1 (subst P (same_call line d c b.0 a.0) b.1) in
      (ap (λ x. Answered x r) (same_call line c d a.0 b.0) ∙ ap (Answered d) one.0, one.1)
  one_outcome s line (Answered c r) (Stopped TooLong) t u a b = absurd (omega (arith, b.0, call_is_within line c a.0))
  one_outcome s line (Answered c r) (Stopped Malformed) t u a b = absurd (b.2 c a.0)
  one_outcome s line (Stopped TooLong) Skipped t u a b = absurd (omega (arith, a.0, b.0))
  one_outcome s line (Stopped TooLong) (Answered d q) t u a b = absurd (omega (arith, a.0, call_is_within line d b.0))
  one_outcome s line (Stopped TooLong) (Stopped TooLong) t u a b = (refl, a.1 ∙ sym b.1)
  one_outcome s line (Stopped TooLong) (Stopped Malformed) t u a b = absurd (omega (arith, a.0, b.0))
  one_outcome s line (Stopped Malformed) Skipped t u a b = absurd (a.1 b.1)
  one_outcome s line (Stopped Malformed) (Answered d q) t u a b = absurd (a.2 d b.0)
  one_outcome s line (Stopped Malformed) (Stopped TooLong) t u a b = absurd (omega (arith, a.0, b.0))
  one_outcome s line (Stopped Malformed) (Stopped Malformed) t u a b = (refl, a.3 ∙ sym b.3)

  -- a script is reported in one way, however its lines and its end are reported
  module _ (report : ℕ → CallOutcome → List ℕ) (closing : Script → List ℕ) where
    one_line : (s : Script) (n : ℕ) (line t u : List ℕ) (m k : Option Script) → ReportsCall report l s n line t m → ReportsCall report l s n line u k → (t ≡ u) × (m ≡ k)
    one_line s n line t u m k (o, v, comes, e, f) (p, w, comes', g, h) =
        let same = one_outcome s line o p v w comes comes' in
        (e ∙ ap (report n) same.0 ∙ sym g, f ∙ ap (λ x. going_on x v) same.0 ∙ ap (going_on p) same.1 ∙ sym h)

    pub one_report : (input t u : List ℕ) (e f : Ended) → IsAnswer (ReportsCall report l) (λ s text. text ≡ closing s) (new_script l) input t e
        → IsAnswer (ReportsCall report l) (λ s text. text ≡ closing s) (new_script l) input u f → (t ≡ u) × (e ≡ f)
    one_report input t u e f is other =
        one_input_answer (ReportsCall report l) (λ s text. text ≡ closing s) (λ s. Unit {0}) (λ s n line x y m k fits. one_line s n line x y m k) (λ s v n line text fits h. tt)
        (λ s x y fits closed closed'. closed ∙ sym closed') (new_script l) tt input t u e f is other

pub one_script_answer : (l : Limits) (input : List ℕ) → HasOneScriptAnswer l input
one_script_answer l input = one_report l call_text (closing_lines l) input
