-- What a call gave out, by its steps.
use Rattle.std.proofs.Common.{◌≡◌, ℕ, ◌<◌, not, ◌&&◌, ◌||◌, cond, Bool, true, false, true≢false, List, [], ◌∷◌, ◌++◌, Option, Some, None, Result, Ok, Err, IfSome, refl, sym, ap, ◌∙◌, subst}
use Rattle.csq_queue.proofs.Imports.{number, same_irp, IrpLife, flagged, IrpId, Life, PassId, Nothing, Removing, Kind, Arm, Test, Disarm, End, Made, same_some, Peek, InsertStatus, Event, PassRecord, inside_of, owes_in, holds_in, removed_in, held_list, owed_list, QueueState, Limits, has_entry, has_marked, with_step, with_calls, is_done, InsertAnswer, has_life, given_in, made_by, MakesSteps, gave, misses, last_step, passed_over, insert_steps, remove_next_steps, remove_steps, reuse_steps, IsNew}
use Rattle.irp_core.specs.Inside.{follows, in_insert, after_disarm}
use Rattle.irp_core.specs.Programs.{Act}
use Rattle.irp_core.specs.declared.inside.Inside.{Inside}
use Rattle.csq_queue.specs.declared.refusals.ReuseRefused.{ReuseRefused}
use Rattle.csq_queue.specs.declared.tokens.InsertAnswer.TheVariants.{Pending, Cancelled}
use Rattle.csq_queue.proofs.Newness.{IsNewTo}
use Rattle.csq_queue.proofs.Owning.{held_more}

-- what the call gave out joins the others
abbrev pub with_given : Option IrpLife → List IrpLife → List IrpLife
with_given None is = is
with_given (Some i) is = i ∷ is

-- of what the pass holds, owes, has flagged and has completed the call changed only that the pass now holds what it gave out, by a removal or not
pub record GivesOut (limits : Limits) (given : Option IrpLife) (by_removal : Bool) (old new : PassRecord) : Type 0 where
  pub pass : new.pass ≡ old.pass
  pub completed : new.completed ≡ old.completed
  pub found : new.lives ≡ old.lives
  pub dones : (j : IrpLife) → is_done new.steps j ≡ is_done old.steps j
  pub flags : (j : IrpLife) → flagged new.steps j ≡ flagged old.steps j
  pub owed : (j : IrpLife) → owes_in new.steps j ≡ owes_in old.steps j
  pub held : (j : IrpLife) → holds_in new.steps j ≡ (gave given j || holds_in old.steps j)
  pub holding : held_list new.steps ≡ with_given given (held_list old.steps)
  pub owing : owed_list new.steps ≡ owed_list old.steps
  pub removed : (j : IrpLife) → removed_in new.steps j ≡ ((by_removal && gave given j) || removed_in old.steps j)
  pub new_to_it : (i : IrpLife) → given ≡ Some i → IsNew limits old i

-- the pass made no steps yet
pub makes_none : (r : PassRecord) → inside_of r.steps ≡ Nothing → MakesSteps [] r r
makes_none r outside = record { outside = outside; pass = refl; steps = refl; completed = refl; found = refl }

-- and one step more
pub makes_more : (acts : List Act) (old r : PassRecord) (es : List Event) (kind : Kind) (n : ℕ) → MakesSteps acts old r → MakesSteps ((kind, n) ∷ acts) old (with_calls es (with_step kind n r))
makes_more acts old r es kind n m = record {
  outside = m.outside;
  pass = m.pass;
  steps = λ k. record { pass = m.pass k; kind = kind; found = n } ∷ m.steps k;
  completed = m.completed;
  found = m.found;
}

-- the record after these steps alone
abbrev after : List Act → PassRecord → PassRecord
after acts r = record r { steps = made_by r.pass acts ++ r.steps }

-- what the steps alone give out, a call that makes them gives out
gives_so : (l : Limits) (given : Option IrpLife) (by_removal : Bool) (acts : List Act) (old new : PassRecord) → MakesSteps acts old new → GivesOut l given by_removal old (after acts old) → GivesOut l given by_removal old new
gives_so l given by_removal acts old new m g = record {
  pass = m.pass;
  completed = m.completed;
  found = m.found;
  dones = λ j. ap (λ s. is_done s j) m.steps ∙ g.dones j;
  flags = λ j. ap (λ s. flagged s j) m.steps ∙ g.flags j;
  owed = λ j. ap (λ s. owes_in s j) m.steps ∙ g.owed j;
  held = λ j. ap (λ s. holds_in s j) m.steps ∙ g.held j;
  holding = ap held_list m.steps ∙ g.holding;
  owing = ap owed_list m.steps ∙ g.owing;
  removed = λ j. ap (λ s. removed_in s j) m.steps ∙ g.removed j;
  new_to_it = g.new_to_it;
}

none_given : (l : Limits) (old : PassRecord) (i : IrpLife) → None ≡ Some i → IsNew l old i
none_given l old i e = absurd (cc)

-- no steps
gives_none : (l : Limits) (by_removal : Bool) (r : PassRecord) → GivesOut l None by_removal r r
gives_none l true r = record { pass = refl; completed = refl; found = refl; dones = λ j. refl; flags = λ j. refl; owed = λ j. refl; held = λ j. refl; holding = refl; owing = refl; removed = λ j. refl; new_to_it = none_given l r }
gives_none l false r = record { pass = refl; completed = refl; found = refl; dones = λ j. refl; flags = λ j. refl; owed = λ j. refl; held = λ j. refl; holding = refl; owing = refl; removed = λ j. refl; new_to_it = none_given l r }

-- a Disarm that found no routine gets nothing
missed : (b h : Bool) → (((b && false) || false) || (true && h)) ≡ h
missed true h = refl
missed false h = refl

unremoved : (b c d : Bool) → (((b && false) && c) || d) ≡ d
unremoved true c d = refl
unremoved false c d = refl

module _ (l : Limits) (old r : PassRecord) (g : GivesOut l None true old r) where
  -- the pass found that a canceller has the IRP
  gives_missed : (i : IrpLife) → GivesOut l None true old (with_step (Disarm i) 0 r)
  gives_missed i = record {
    pass = g.pass;
    completed = g.completed;
    found = g.found;
    dones = g.dones;
    flags = g.flags;
    owed = g.owed;
    held = λ j. missed (same_irp i j) (holds_in r.steps j) ∙ g.held j;
    holding = g.holding;
    owing = g.owing;
    removed = λ j. unremoved (same_irp i j) (not (in_insert (inside_of r.steps))) (removed_in r.steps j) ∙ g.removed j;
    new_to_it = g.new_to_it;
  }

  -- its removal ended
  gives_ended : GivesOut l None true old (with_step End 0 r)
  gives_ended = record { pass = g.pass; completed = g.completed; found = g.found; dones = g.dones; flags = g.flags; owed = g.owed; held = g.held; holding = g.holding; owing = g.owing; removed = g.removed; new_to_it = g.new_to_it }

  -- the pass got the IRP
  gives_got : (i : IrpLife) → follows (inside_of r.steps) End ≡ true → IsNew l old i → GivesOut l (Some i) true old (with_step (Disarm i) 1 r)
  gives_got i removes new = record {
    pass = g.pass;
    completed = g.completed;
    found = g.found;
    dones = g.dones;
    flags = g.flags;
    owed = g.owed;
    held = λ j. held_more (same_irp i j) (holds_in r.steps j) ∙ ap (λ h. same_irp i j || h) (g.held j);
    holding = ap (λ (is : List IrpLife). i ∷ is) g.holding;
    owing = g.owing;
    removed = λ j. got (same_irp i j) (inside_of r.steps) (removed_in r.steps j) removes ∙ ap (λ h. same_irp i j || h) (g.removed j);
    new_to_it = λ j e. subst (λ (o : IrpLife). IsNew l old o) (same_some i j e) new;
  }
    where
      got : (b : Bool) (s : Inside) (d : Bool) → follows s End ≡ true → (((b && true) && not (in_insert s)) || d) ≡ (b || d)
      got true Nothing d h = refl
      got true Removing d h = refl
      got false s d h = refl
      got true s d h = absurd (true≢false (sym h))

  -- what is new to the pass then was new to it before
  pub new_before : (i : IrpLife) → number i < l.irps → IsNewTo r.steps i → IsNew l old i
  new_before i known new = record {
    known = known;
    not_held = sym (g.held i) ∙ new.not_held;
    not_done = sym (g.dones i) ∙ new.not_done;
    not_removed = sym (g.removed i) ∙ new.not_removed;
    no_other = ap (λ (is : List IrpLife). has_life is i.irp) (sym g.holding) ∙ new.no_other;
  }

pub removes_on : (s : Inside) → follows s End ≡ true → follows (after_disarm s 0) End ≡ true
removes_on Nothing h = refl
removes_on Removing h = refl
removes_on s h = absurd (true≢false (sym h))

-- misses alone
gives_misses : (l : Limits) (is : List IrpLife) (old : PassRecord) → GivesOut l None true old (after (misses is) old)
gives_misses l [] old = gives_none l true old
gives_misses l (i ∷ is) old = gives_missed l old (after (misses is) old) (gives_misses l is old) i

-- a removal goes on after them
removes_misses : (is : List IrpLife) (p : PassId) (steps : List Made) → inside_of steps ≡ Nothing → follows (inside_of (made_by p (misses is) ++ steps)) End ≡ true
removes_misses [] p steps e = ap (λ s. follows s End) e
removes_misses (i ∷ is) p steps e = removes_on (inside_of (made_by p (misses is) ++ steps)) (removes_misses is p steps e)

-- what a removal on its way has given out
pub misses_give : (l : Limits) (is : List IrpLife) (old new : PassRecord) → MakesSteps (misses is) old new → GivesOut l None true old new
misses_give l is old new m = gives_so l None true (misses is) old new m (gives_misses l is old)

-- and one that is over
removal_gives : (l : Limits) (is : List IrpLife) (given : Option IrpLife) (old new : PassRecord) → MakesSteps (last_step given ∷ misses is) old new → IfSome given (IsNew l old) → GivesOut l given true old new
removal_gives l is None old new m fresh = gives_so l None true (last_step None ∷ misses is) old new m (gives_ended l old (after (misses is) old) (gives_misses l is old))
removal_gives l is (Some i) old new m fresh =
    gives_so l (Some i) true (last_step (Some i) ∷ misses is) old new m (gives_got l old (after (misses is) old) (gives_misses l is old) i (removes_misses is old.pass old.steps m.outside) fresh)

-- what a removal of the next match gave out
pub remove_next_gives : (l : Limits) (k : Peek) (given : Option IrpLife) (u : QueueState) (old new : PassRecord) → MakesSteps (remove_next_steps k given u) old new → IfSome given (IsNew l old) → GivesOut l given true old new
remove_next_gives l k given u old new m fresh = removal_gives l (passed_over k given u.entries) given old new m fresh

-- what a removal of one IRP gave out
pub remove_gives : (l : Limits) (i : IrpLife) (given : Option IrpLife) (u : QueueState) (old new : PassRecord) → MakesSteps (remove_steps i given u) old new → IfSome given (IsNew l old) → GivesOut l given true old new
remove_gives l i None u old new m fresh = removal_gives l (cond (has_entry u.entries i) (i ∷ []) []) None old new m fresh
remove_gives l i (Some j) u old new m fresh = removal_gives l [] (Some j) old new m fresh

-- what an insert gave out
pub insert_gives : (l : Limits) (answer : Result (InsertAnswer IrpLife IrpLife) InsertStatus) (u : QueueState) (old new : PassRecord) → MakesSteps (insert_steps answer u) old new → IfSome (given_in answer) (IsNew l old) → GivesOut l (given_in answer) false old new
insert_gives l (Err cause) u old new m fresh = gives_so l None false [] old new m (gives_none l false old)
insert_gives l (Ok (Cancelled i)) u old new m fresh = gives_so l (Some i) false ((Disarm i, 1) ∷ (Test i, 1) ∷ (Arm i, 0) ∷ []) old new m record {
  pass = refl;
  completed = refl;
  found = refl;
  dones = λ j. refl;
  flags = λ j. refl;
  owed = λ j. refl;
  held = λ j. held_more (same_irp i j) (holds_in old.steps j);
  holding = refl;
  owing = refl;
  removed = λ j. taken_back (same_irp i j) (removed_in old.steps j);
  new_to_it = λ j e. subst (λ (o : IrpLife). IsNew l old o) (same_some i j e) fresh;
}
  where
    taken_back : (b r : Bool) → (((b && true) && false) || r) ≡ r
    taken_back true r = refl
    taken_back false r = refl
insert_gives l (Ok (Pending i)) u old new m fresh = at (has_marked u.entries i) m
  where
    at : (b : Bool) → MakesSteps (cond b ((Disarm i, 0) ∷ (Test i, 1) ∷ (Arm i, 0) ∷ []) ((Test i, 0) ∷ (Arm i, 0) ∷ [])) old new → GivesOut l None false old new
    at true made = gives_so l None false ((Disarm i, 0) ∷ (Test i, 1) ∷ (Arm i, 0) ∷ []) old new made record {
      pass = refl;
      completed = refl;
      found = refl;
      dones = λ j. refl;
      flags = λ j. refl;
      owed = λ j. refl;
      held = λ j. missed (same_irp i j) (holds_in old.steps j);
      holding = refl;
      owing = refl;
      removed = λ j. unremoved (same_irp i j) false (removed_in old.steps j);
      new_to_it = none_given l old;
    }
    at false made = gives_so l None false ((Test i, 0) ∷ (Arm i, 0) ∷ []) old new made record { pass = refl; completed = refl; found = refl; dones = λ j. refl; flags = λ j. refl; owed = λ j. refl; held = λ j. refl; holding = refl; owing = refl; removed = λ j. refl; new_to_it = none_given l old }

-- a reuse gave nothing out
pub reuse_gives : (l : Limits) (n : IrpId) (answer : Result Life ReuseRefused) (old new : PassRecord) → MakesSteps (reuse_steps n answer) old new → GivesOut l None false old new
reuse_gives l n (Err cause) old new m = gives_so l None false [] old new m (gives_none l false old)
reuse_gives l n (Ok life) old new m = gives_so l None false (reuse_steps n (Ok life)) old new m record { pass = refl; completed = refl; found = refl; dones = λ j. refl; flags = λ j. refl; owed = λ j. refl; held = λ j. refl; holding = refl; owing = refl; removed = λ j. refl; new_to_it = none_given l old }
