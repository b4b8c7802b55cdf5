-- The run of a script's one pass goes on.
use Rattle.std.proofs.Common.{◌≡◌, ◌≢◌, ℕ, ◌<◌, ◌≤◌, Bool, true, false, cond, List, [], ◌∷◌, refl, ap, sym, ◌∙◌, subst, arith, lit≤}
use Rattle.csq_replay.proofs.Imports.{IrpId, PassId, Kind, Arm, Test, Disarm, End, Flag, Take, Out, Done, Renew, Rearm, Made, Inside, Nothing, Armed, FlagSeen, Cancelling, Rearmed, FlagSeenAgain, number, life_of, same_irp, same_pass, Each, IrpLife, was_armed, found_by, inside, inside_after, follows, has_lock, owes, holds, listed, dones, removed, holds_removed, last_life, present_life, present, IsPresent, Size, IsKnown, IsRun, MachineState, Agrees, size_of, same_irp-eq, same_pass-refl, same_pass-eq, Limits, Script, script_pass, script_size, present_of, IsPresentOf, next_step, Keeping, Keeps}
use Rattle.irp_core.proofs.Next.{IsFreeFor, grows_by_arm, grows_by_test, grows_by_insert_disarm, grows_by_removal_disarm, grows_by_end, grows_by_flag, grows_by_take, grows_by_out, grows_by_done, grows_by_renew, grows_by_rearm, grows_by_test_again, grows_by_disarm_again}

the_pass : (q : PassId) → q.0 ≡ 1 → q ≡ script_pass
the_pass q e = let named : ℕ → PassId = λ n. record { 0 = n } in ap named e

-- no other pass has the lock
only_pass : (size : Size) → size.passes ≡ 1 → (E : List Made) → Each (λ m before. IsKnown size m) E → IsFreeFor E script_pass
only_pass size one [] known = λ q h. absurd cc
only_pass size one (m ∷ E) known = λ q h. go q (same_pass m.pass q) refl (only_pass size one E known.1 q) h
  where
    go : (q : PassId) (t : Bool) → same_pass m.pass q ≡ t → (has_lock (inside E q) ≡ true → q ≡ script_pass)
        → has_lock (cond t (inside_after (inside E q) m.kind m.found) (inside E q)) ≡ true → q ≡ script_pass
    go q false e before h = before h
    go q true e before h = sym (same_pass-eq m.pass q e) ∙ the_pass m.pass (omega (arith, known.0.from, known.0.to, one))

-- the machine agrees with E, after which the one pass is inside of x
pub record Goes (state : MachineState) (E : List Made) (x : Inside) : Type 0 where
  pub agrees : Agrees state E
  pub one : (size_of state).passes ≡ 1
  pub at : inside E script_pass ≡ x

module _ (l : Limits) (kept : Keeping) (s : Script) (k : Keeps l kept s) where
  pub starts : Goes kept.machine s.run Nothing
  starts = record { agrees = k.agrees; one = ap (λ (x : Size). x.passes) k.size; at = k.outside }

  pub run_for : IsRun (script_size l) s.run
  run_for = let P : Size → Type 0 = λ n. IsRun n s.run in subst P k.size k.agrees.run

  pub now_present : (n : IrpId) → IsPresent (size_of kept.machine).first s.run (present_of s n)
  now_present n = k.queue.lives n ∙ ap (λ (x : Size). present_life x.first s.run n) (sym k.size)

  -- the machine's present life is the queue's
  pub present_is : (n : IrpId) → present (size_of kept.machine).first s.run n ≡ present_of s n
  present_is n = let at_life : ℕ → IrpLife = λ g. record { irp = n; life = record { 0 = g } } in ap at_life (sym (now_present n))

  -- a name that the machine says is present
  pub present_named : (x i : IrpLife) → x ≡ present (size_of kept.machine).first s.run i.irp → same_irp x i ≡ true → IsPresentOf s i
  present_named x i is same = sym (is ∙ present_is i.irp) ∙ same_irp-eq x i same

  pub name_present : (i : IrpLife) → IsPresentOf s i → IsPresent (size_of kept.machine).first s.run i
  name_present i now = sym (ap life_of now) ∙ now_present i.irp

-- of one name, and of the same name written another way
pub made_as : (new : MachineState) (v : ℕ) (E : List Made) (K : IrpLife → Kind) (x i : IrpLife) → x ≡ i → Agrees new (next_step E (K x)) × (v ≡ found_by E (K x)) → Agrees new (next_step E (K i)) × (v ≡ found_by E (K i))
made_as new v E K x i e h = let P : IrpLife → Type 0 = λ y. Agrees new (next_step E (K y)) × (v ≡ found_by E (K y)) in subst P e h

-- a step may come
abbrev pub May : MachineState → Kind → Type 0
May state k = (E : List Made) × Agrees state E × IsRun (size_of state) (next_step E k)

module _ (state : MachineState) (E : List Made) (x : Inside) (g : Goes state E x) where
  free : IsFreeFor E script_pass
  free = only_pass (size_of state) g.one E g.agrees.run.known

  to : 1 ≤ (size_of state).passes
  to = omega (arith, g.one)

  pub went : (new : MachineState) (k : Kind) → Agrees new (next_step E k) → size_of new ≡ size_of state → Goes new (next_step E k) (inside_after x k (found_by E k))
  went new k a same = record {
    agrees = a;
    one = ap (λ (n : Size). n.passes) same ∙ g.one;
    at = rw (same_pass-refl, g.at) refl;
  }

  pub may_arm : (i : IrpLife) → x ≡ Nothing → number i < (size_of state).irps → was_armed E i ≡ false → IsPresent (size_of state).first E i → May state (Arm i)
  may_arm i at known home now = (E, g.agrees, grows_by_arm (size_of state) E g.agrees.run script_pass (lit≤ tt) to i known (g.at ∙ at) free home now)

  pub may_test : (i : IrpLife) → x ≡ Armed i → number i < (size_of state).irps → May state (Test i)
  may_test i at known = (E, g.agrees, grows_by_test (size_of state) E g.agrees.run script_pass (lit≤ tt) to i known (g.at ∙ at))

  pub may_disarm : (i : IrpLife) → x ≡ FlagSeen i → number i < (size_of state).irps → May state (Disarm i)
  may_disarm i at known = (E, g.agrees, grows_by_insert_disarm (size_of state) E g.agrees.run script_pass (lit≤ tt) to i known (g.at ∙ at))

  pub may_remove : (i : IrpLife) → follows x End ≡ true → number i < (size_of state).irps → listed E i ≡ true → May state (Disarm i)
  may_remove i at known there = (E, g.agrees, grows_by_removal_disarm (size_of state) E g.agrees.run script_pass (lit≤ tt) to i known (ap (λ y. follows y End) g.at ∙ at) free there)

  pub may_end : follows x End ≡ true → May state End
  may_end at = (E, g.agrees, grows_by_end (size_of state) E g.agrees.run script_pass (lit≤ tt) to (ap (λ y. follows y End) g.at ∙ at) free)

  pub may_flag : (i : IrpLife) → x ≡ Nothing → number i < (size_of state).irps → IsPresent (size_of state).first E i → May state (Flag i)
  may_flag i at known now = (E, g.agrees, grows_by_flag (size_of state) E g.agrees.run script_pass (lit≤ tt) to i known (g.at ∙ at) now)

  pub may_take : (i : IrpLife) → x ≡ Cancelling i → number i < (size_of state).irps → May state (Take i)
  may_take i at known = (E, g.agrees, grows_by_take (size_of state) E g.agrees.run script_pass (lit≤ tt) to i known (g.at ∙ at))

  pub may_out : (i : IrpLife) → x ≡ Nothing → number i < (size_of state).irps → owes E script_pass i ≡ true → May state (Out i)
  may_out i at known owed = (E, g.agrees, grows_by_out (size_of state) E g.agrees.run script_pass (lit≤ tt) to i known (g.at ∙ at) free owed)

  pub may_done : (i : IrpLife) → x ≡ Nothing → number i < (size_of state).irps → holds E script_pass i ≡ true → May state (Done i)
  may_done i at known held = (E, g.agrees, grows_by_done (size_of state) E g.agrees.run script_pass (lit≤ tt) to i known (g.at ∙ at) held)

  pub may_renew : (i : IrpLife) → x ≡ Nothing → number i < (size_of state).irps → IsPresent (size_of state).first E i → dones E i ≢ [] → life_of i < last_life → May state (Renew i)
  may_renew i at known now over room = (E, g.agrees, grows_by_renew (size_of state) E g.agrees.run script_pass (lit≤ tt) to i known (g.at ∙ at) free now over room)

  pub may_rearm : (i : IrpLife) → x ≡ Nothing → number i < (size_of state).irps → holds E script_pass i ≡ true → removed E i ≡ true → May state (Rearm i)
  may_rearm i at known held back =
      let both : holds_removed E script_pass i ≡ true = rw (held, back) refl in
      (E, g.agrees, grows_by_rearm (size_of state) E g.agrees.run script_pass (lit≤ tt) to i known (g.at ∙ at) free both)

  pub may_test_again : (i : IrpLife) → x ≡ Rearmed i → number i < (size_of state).irps → May state (Test i)
  may_test_again i at known = (E, g.agrees, grows_by_test_again (size_of state) E g.agrees.run script_pass (lit≤ tt) to i known (g.at ∙ at))

  pub may_disarm_again : (i : IrpLife) → x ≡ FlagSeenAgain i → number i < (size_of state).irps → May state (Disarm i)
  may_disarm_again i at known = (E, g.agrees, grows_by_disarm_again (size_of state) E g.agrees.run script_pass (lit≤ tt) to i known (g.at ∙ at))

pub done_as : (new : MachineState) (E : List Made) (x i : IrpLife) → x ≡ i → Agrees new (next_step E (Done x)) → Agrees new (next_step E (Done i))
done_as new E x i e h = let P : IrpLife → Type 0 = λ y. Agrees new (next_step E (Done y)) in subst P e h

pub may_as : (state : MachineState) (K : IrpLife → Kind) (x i : IrpLife) → x ≡ i → May state (K i) → May state (K x)
may_as state K x i e h = let P : IrpLife → Type 0 = λ y. May state (K y) in subst P (sym e) h
