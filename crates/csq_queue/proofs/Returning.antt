-- What a pass holds after a put-back.
use Rattle.std.proofs.Common.{◌≡◌, ℕ, suc, ◌-◌, ◌≤◌, cond, Bool, true, false, List, [], ◌∷◌, length, None, Result, Ok, Err, IfOk, OnOk, OnErr, IfSome, refl, sym, ap, ◌∙◌, subst, arith}
use Rattle.csq_queue.proofs.Imports.{IrpLife, Rearm, Test, Disarm, holds_in, removed_in, held_list, owed_list, same_irp-refl, FileId, Place, InsertStatus, Event, PassRecord, QueueState, has_marked, held_list-is, has_life, AreApart, held_count, IsPutBack, given_by, count_spent, Holds, HoldsRemoved, MakesSteps, put_back_steps, InsertAnswer}
use Rattle.csq_queue.specs.declared.tokens.InsertAnswer.TheVariants.{Pending, Cancelled}
use Rattle.csq_queue.proofs.Counting.{spent, spent_one, spent_apart, spent_gone}

-- what was returned is of i
abbrev pub IsOfIrp : IrpLife → Result (InsertAnswer IrpLife IrpLife) InsertStatus → Type 0
IsOfIrp i (Ok (Pending context)) = context ≡ i
IsOfIrp i (Ok (Cancelled token)) = token ≡ i
IsOfIrp i (Err cause) = Unit {0}

-- what the pass holds then, what it got last first
abbrev pub held_then : IrpLife → Result (InsertAnswer IrpLife IrpLife) InsertStatus → List IrpLife → List IrpLife
held_then i (Ok (Pending context)) is = spent i is
held_then i (Ok (Cancelled token)) is = i ∷ spent i is
held_then i (Err cause) is = is

-- of what the pass holds, owes and got by removals a put-back of i changes only this
pub record Returns (irps : ℕ) (i : IrpLife) (answer : Result (InsertAnswer IrpLife IrpLife) InsertStatus) (old new : PassRecord) : Type 0 where
  pub pass : new.pass ≡ old.pass
  pub holding : held_list new.steps ≡ held_then i answer (held_list old.steps)
  pub owing : owed_list new.steps ≡ owed_list old.steps
  pub given : IfOk answer (λ inserted. IfSome (given_by inserted) (Holds irps new))
  pub spent_is : OnOk answer (removed_in new.steps i ≡ false)
  pub kept : OnErr answer (HoldsRemoved irps new i)

-- what a put-back that made these steps leaves
pub returns : (irps : ℕ) (i : IrpLife) (answer : Result (InsertAnswer IrpLife IrpLife) InsertStatus) (u : QueueState) (old new : PassRecord) → MakesSteps (put_back_steps answer u) old new → IsOfIrp i answer → HoldsRemoved irps old i → Returns irps i answer old new
returns irps i (Err cause) u old new m of_i held = record {
  pass = m.pass;
  holding = ap held_list m.steps;
  owing = ap owed_list m.steps;
  given = tt;
  spent_is = tt;
  kept = record { known = held.known; held = ap (λ s. holds_in s i) m.steps ∙ held.held; removed = ap (λ s. removed_in s i) m.steps ∙ held.removed };
}
returns irps i (Ok (Cancelled token)) u old new m of_i held = at token of_i m
  where
    at : (j : IrpLife) → j ≡ i → MakesSteps (put_back_steps (Ok (Cancelled j)) u) old new → Returns irps i (Ok (Cancelled j)) old new
    at j same made = subst (λ (k : IrpLife). MakesSteps (put_back_steps (Ok (Cancelled k)) u) old new → Returns irps i (Ok (Cancelled k)) old new) (sym same) (λ made'. record {
      pass = made'.pass;
      holding = ap held_list made'.steps;
      owing = ap owed_list made'.steps;
      given = record { known = held.known; held = ap (λ s. holds_in s i) made'.steps ∙ rw (same_irp-refl i) refl };
      spent_is = ap (λ s. removed_in s i) made'.steps ∙ rw (same_irp-refl i) refl;
      kept = tt;
    }) made
returns irps i (Ok (Pending context)) u old new m of_i held = at context of_i m
  where
    at : (j : IrpLife) → j ≡ i → MakesSteps (put_back_steps (Ok (Pending j)) u) old new → Returns irps i (Ok (Pending j)) old new
    at j same made = subst (λ (k : IrpLife). MakesSteps (put_back_steps (Ok (Pending k)) u) old new → Returns irps i (Ok (Pending k)) old new) (sym same) (by_mark (has_marked u.entries i)) made
      where
        by_mark : (b : Bool) → MakesSteps (cond b ((Disarm i, 0) ∷ (Test i, 1) ∷ (Rearm i, 0) ∷ []) ((Test i, 0) ∷ (Rearm i, 0) ∷ [])) old new → Returns irps i (Ok (Pending i)) old new
        by_mark true made' = record {
          pass = made'.pass;
          holding = ap held_list made'.steps;
          owing = ap owed_list made'.steps;
          given = tt;
          spent_is = ap (λ s. removed_in s i) made'.steps ∙ rw (same_irp-refl i) refl;
          kept = tt;
        }
        by_mark false made' = record {
          pass = made'.pass;
          holding = ap held_list made'.steps;
          owing = ap owed_list made'.steps;
          given = tt;
          spent_is = ap (λ s. removed_in s i) made'.steps ∙ rw (same_irp-refl i) refl;
          kept = tt;
        }

module _ (irps : ℕ) (i : IrpLife) (answer : Result (InsertAnswer IrpLife IrpLife) InsertStatus) (old new : PassRecord) (h : Returns irps i answer old new) (held : HoldsRemoved irps old i) (apart : AreApart irps (held_list old.steps)) where
  one_less : held_count old.steps ≡ suc (length (spent i (held_list old.steps)))
  one_less = spent_one irps i (held_list old.steps) apart (held_list-is old.steps i ∙ held.held)

  none_left : has_life (spent i (held_list old.steps)) i.irp ≡ false
  none_left = spent_gone irps i (held_list old.steps) apart (held_list-is old.steps i ∙ held.held)

  -- the pass holds something to be put back
  pub back_some : count_spent answer ≤ held_count old.steps
  back_some = at answer
    where
      at : (a : Result (InsertAnswer IrpLife IrpLife) InsertStatus) → count_spent a ≤ held_count old.steps
      at (Ok (Pending context)) = let less = one_less in omega arith
      at (Ok (Cancelled token)) = omega arith
      at (Err cause) = omega arith

  -- how many it holds then
  pub back_counts : held_count new.steps ≡ held_count old.steps - count_spent answer
  back_counts = ap (λ (is : List IrpLife). length is) h.holding ∙ at answer
    where
      at : (a : Result (InsertAnswer IrpLife IrpLife) InsertStatus) → length (held_then i a (held_list old.steps)) ≡ held_count old.steps - count_spent a
      at (Ok (Pending context)) = let less = one_less in omega arith
      at (Ok (Cancelled token)) = let less = one_less in omega arith
      at (Err cause) = omega arith

  -- of which no two are lives of one IRP
  pub back_apart : AreApart irps (held_list new.steps)
  back_apart = subst (AreApart irps) (sym h.holding) (at answer)
    where
      at : (a : Result (InsertAnswer IrpLife IrpLife) InsertStatus) → AreApart irps (held_then i a (held_list old.steps))
      at (Ok (Pending context)) = spent_apart irps i (held_list old.steps) apart
      at (Ok (Cancelled token)) = (held.known, none_left, spent_apart irps i (held_list old.steps) apart)
      at (Err cause) = apart

-- no life of the IRP is held once it is pending
pub pending_none : (irps : ℕ) (i : IrpLife) (answer : Result (InsertAnswer IrpLife IrpLife) InsertStatus) (old new : PassRecord) → Returns irps i answer old new → HoldsRemoved irps old i → AreApart irps (held_list old.steps) → IfOk answer (λ inserted. given_by inserted ≡ None → has_life (held_list new.steps) i.irp ≡ false)
pending_none irps i (Err cause) old new h held apart = tt
pending_none irps i (Ok (Cancelled token)) old new h held apart = λ e. absurd (cc e)
pending_none irps i (Ok (Pending context)) old new h held apart = λ _. ap (λ (is : List IrpLife). has_life is i.irp) h.holding ∙ spent_gone irps i (held_list old.steps) apart (held_list-is old.steps i ∙ held.held)

-- what an accepted put-back of i returned is of i
pub of_accepted : (i : IrpLife) (f : FileId) (place : Place) (A : InsertAnswer IrpLife IrpLife → List Event → Type 0) (answer : Result (InsertAnswer IrpLife IrpLife) InsertStatus) → IfOk answer (λ a. (events : List Event) × IsPutBack i f place a events × A a events) → IsOfIrp i answer
of_accepted i f place A (Ok (Pending context)) h = h.1.0
of_accepted i f place A (Ok (Cancelled token)) h = h.1.0
of_accepted i f place A (Err cause) h = tt
