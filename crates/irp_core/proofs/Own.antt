-- A pass's own steps in a run.
use Rattle.std.proofs.Common.{◌≡◌, ◌≢◌, Bool, true, false, cond, not, ◌&&◌, ◌||◌, List, [], ◌∷◌, filter, refl, ap, ◌∙◌}
use Rattle.std.proofs.Math.Bool.{and-false, and-true}
use Rattle.irp_core.proofs.ByTest.{by_value}
use Rattle.irp_core.proofs.Imports.{or_right, list_any, PassId, Disarm, Flag, Take, Out, Done, Rearm, Made, is, found_one, by, own, since, IrpLife, flagged, inside, inside_after, in_insert, owes, holds}
use Rattle.irp_core.proofs.Names.{same_pass-is, same_pass-not}
use Rattle.irp_core.specs.Own.{inside_of, owes_in, holds_in, removed_in}

pub own-mine : (p : PassId) (m : Made) (E : List Made) → m.pass ≡ p → own p (m ∷ E) ≡ m ∷ own p E
own-mine p m E e = ap (λ b. cond b (m ∷ own p E) (own p E)) (same_pass-is m.pass p e)

pub own-other : (p : PassId) (m : Made) (E : List Made) → m.pass ≢ p → own p (m ∷ E) ≡ own p E
own-other p m E ne = ap (λ b. cond b (m ∷ own p E) (own p E)) (same_pass-not m.pass p ne)

module _ {A : Type 0} where
  -- what meets a test in a part of the list meets it in the list
  pub any_filtered : (f g : A → Bool) (xs : List A) → list_any f (filter g xs) ≡ true → list_any f xs ≡ true
  any_filtered f g [] h = h
  any_filtered f g (x ∷ xs) h = by_value (λ b. list_any f (cond b (x ∷ filter g xs) (filter g xs)) ≡ true → (f x || list_any f xs) ≡ true) (g x)
      (λ _ h. by_value (λ b. (b || list_any f (filter g xs)) ≡ true → (b || list_any f xs) ≡ true) (f x) (λ _ h. refl) (λ _ h. any_filtered f g xs h) h)
      (λ _ h. or_right (f x) (list_any f xs) (any_filtered f g xs h)) h

-- the step that a pass makes is its own
module _ (p : PassId) (m : Made) (E : List Made) (mine : m.pass ≡ p) where
  pub own_made : (f : Made → Bool) → f m ≡ true → list_any f (own p (m ∷ E)) ≡ true
  own_made f h = ap (list_any f) (own-mine p m E mine) ∙ rw h refl

  pub own_stays : (f : Made → Bool) → list_any f (own p E) ≡ true → list_any f (own p (m ∷ E)) ≡ true
  own_stays f h = ap (list_any f) (own-mine p m E mine) ∙ or_right (f m) (list_any f (own p E)) h

-- a flag that a pass set is set
pub flagged_own : (p : PassId) (E : List Made) (i : IrpLife) → flagged (own p E) i ≡ true → flagged E i ≡ true
flagged_own p E i h = any_filtered (is (Flag i)) (by p) E h

-- what a pass is inside of, owes and holds follows from its own steps
pub inside_of-own : (p : PassId) (E : List Made) → inside_of (own p E) ≡ inside E p
inside_of-own p [] = refl
inside_of-own p (m ∷ E) = go (by p m) (inside_of-own p E)
  where
    go : (t : Bool) → inside_of (own p E) ≡ inside E p → inside_of (cond t (m ∷ own p E) (own p E)) ≡ cond t (inside_after (inside E p) m.kind m.found) (inside E p)
    go true ih = ap (λ s. inside_after s m.kind m.found) ih
    go false ih = ih

since_own : (p : PassId) (begins ends : Made → Bool) (E : List Made) → since begins ends (own p E) ≡ since (λ m. begins m && by p m) (λ m. ends m && by p m) E
since_own p begins ends [] = refl
since_own p begins ends (m ∷ E) = go (by p m) refl (since_own p begins ends E)
  where
    go : (t : Bool) → by p m ≡ t → since begins ends (own p E) ≡ since (λ x. begins x && by p x) (λ x. ends x && by p x) E
        → since begins ends (cond t (m ∷ own p E) (own p E)) ≡ ((begins m && by p m) || (not (ends m && by p m) && since (λ x. begins x && by p x) (λ x. ends x && by p x) E))
    go true e ih = rw (e, and-true (begins m), and-true (ends m), ih) refl
    go false e ih = rw (e, and-false (begins m), and-false (ends m)) ih

pub owes_in-own : (p : PassId) (i : IrpLife) (E : List Made) → owes_in (own p E) i ≡ owes E p i
owes_in-own p i E = since_own p (found_one (Take i)) (is (Out i)) E

pub holds_in-own : (p : PassId) (i : IrpLife) (E : List Made) → holds_in (own p E) i ≡ holds E p i
holds_in-own p i E = since_own p (λ m. found_one (Disarm i) m || is (Out i) m) (λ m. is (Done i) m || is (Rearm i) m) E

-- whether the steps completed i
abbrev pub done_in : List Made → IrpLife → Bool
done_in steps i = list_any (is (Done i)) steps

-- what was got by a removal is still held, or was completed
pub removed_kept : (steps : List Made) (i : IrpLife) → removed_in steps i ≡ true → (holds_in steps i || done_in steps i) ≡ true
removed_kept [] i h = absurd cc
removed_kept (m ∷ steps) i h = go (found_one (Disarm i) m) (is (Out i) m) (is (Done i) m) (is (Rearm i) m) (not (in_insert (inside_of steps))) h (removed_kept steps i)
  where
    go : (d o n r x : Bool) → ((d && x) || (not r && removed_in steps i)) ≡ true → (removed_in steps i ≡ true → (holds_in steps i || done_in steps i) ≡ true)
        → (((d || o) || (not (n || r) && holds_in steps i)) || (n || done_in steps i)) ≡ true
    go true o n r x h ih = refl
    go false true n r x h ih = refl
    go false false true r x h ih = refl
    go false false false true x h ih = absurd cc
    go false false false false x h ih = ih h
