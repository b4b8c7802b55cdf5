-- What a pass's own steps, the newest first, say of it.
use Rattle.std.specs.Prelude.{ℕ, ◌==◌, Bool, false, not, ◌&&◌, ◌||◌, List, [], ◌∷◌, filter, if◌then◌else◌}
use Rattle.std.specs.List.{list_any}
use Rattle.irp_core.specs.declared.step.{Kind.{Kind, TheVariants.{Disarm, Take, Out, Done, Renew, Rearm}}, Made.{Made}}
use Rattle.irp_core.specs.declared.inside.Inside.{Inside, TheVariants.{Nothing}}
use Rattle.irp_core.specs.Steps.{same_irp, is, found_one, since}
use Rattle.irp_core.specs.declared.ids.IrpLife.{IrpLife}
use Rattle.irp_core.specs.Inside.{inside_after, in_insert}

-- what the pass is inside of
abbrev pub inside_of : List Made → Inside
inside_of [] = Nothing
inside_of (m ∷ steps) = inside_after (inside_of steps) m.kind m.found

-- it owes i: its Take of i found 1, and it made no Out of i since
abbrev pub owes_in : List Made → IrpLife → Bool
owes_in steps i = since (found_one (Take i)) (is (Out i)) steps

-- it holds i: its Disarm of i found 1, or it made an Out of i, and no Done or Rearm of i since
abbrev pub holds_in : List Made → IrpLife → Bool
holds_in steps i = since (λ m. found_one (Disarm i) m || is (Out i) m) (λ m. is (Done i) m || is (Rearm i) m) steps

-- its Disarm of i found 1
abbrev pub disarmed_in : List Made → IrpLife → Bool
disarmed_in steps i = list_any (found_one (Disarm i)) steps

-- it made an Out of i
abbrev pub out_in : List Made → IrpLife → Bool
out_in steps i = list_any (is (Out i)) steps

-- it made a Renew of i
abbrev pub renewed_in : List Made → IrpLife → Bool
renewed_in steps i = list_any (is (Renew i)) steps

-- it got i by a removal: its Disarm of i found 1, and not in an insert or a put-back, and it didn't put i back since
abbrev pub removed_in : List Made → IrpLife → Bool
removed_in [] i = false
removed_in (m ∷ steps) i = (found_one (Disarm i) m && not (in_insert (inside_of steps))) || (not (is (Rearm i) m) && removed_in steps i)

-- it got i by a removal at some time
abbrev pub was_removed_in : List Made → IrpLife → Bool
was_removed_in [] i = false
was_removed_in (m ∷ steps) i = (found_one (Disarm i) m && not (in_insert (inside_of steps))) || was_removed_in steps i

-- the IRPs that a step of this kind and found value adds to what the pass holds, or takes from it
abbrev pub held_after : Kind → ℕ → List IrpLife → List IrpLife
held_after (Disarm i) found is = if found == 1 then i ∷ is else is
held_after (Out i) found is = i ∷ is
held_after (Done i) found is = filter (λ j. not (same_irp i j)) is
held_after (Rearm i) found is = filter (λ j. not (same_irp i j)) is
held_after _ found is = is

-- what the pass holds, what it got last first
abbrev pub held_list : List Made → List IrpLife
held_list [] = []
held_list (m ∷ steps) = held_after m.kind m.found (held_list steps)

-- the same of what it owes
abbrev pub owed_after : Kind → ℕ → List IrpLife → List IrpLife
owed_after (Take i) found is = if found == 1 then i ∷ is else is
owed_after (Out i) found is = filter (λ j. not (same_irp i j)) is
owed_after _ found is = is

-- what the pass owes, what it claimed last first
abbrev pub owed_list : List Made → List IrpLife
owed_list [] = []
owed_list (m ∷ steps) = owed_after m.kind m.found (owed_list steps)
