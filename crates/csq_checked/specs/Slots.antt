-- What a pass knows of the IRPs that it holds and owes.
use Rattle.std.specs.Prelude.{◌≡◌, ℕ, ◌<◌, ◌==◌, if◌then◌else◌, false, List, [], ◌∷◌, length, Bool, Option, Some, None, slice_index_or, slice_set}
use Rattle.irp_core.specs.Steps.{number}
use Rattle.irp_core.specs.declared.ids.{IrpLife.{IrpLife}, Life.{Life}}
use Rattle.irp_core.specs.declared.step.Made.{Made}
use Rattle.irp_core.specs.Own.{removed_in, held_list, owed_list}
use Rattle.csq_queue.specs.declared.tokens.InsertAnswer.{InsertAnswer, TheVariants.{Pending, Cancelled}}
use Rattle.csq_checked.specs.declared.slots.Held.{Held}

-- the slot of IRP n, which is empty if there is none
abbrev pub slot_at : {T : Type 0} → List (Option T) → ℕ → Option T
slot_at slots n = slice_index_or slots n None

-- how one of these IRPs is IRP n: in which life, and whether a removal got it
abbrev pub held_at : List Made → List IrpLife → ℕ → Option Held
held_at steps [] n = None
held_at steps (i ∷ is) n = if number i == n then Some (record { removed = removed_in steps i; life = i.life }) else held_at steps is n

-- in which life one of these IRPs is IRP n
abbrev pub owed_at : List IrpLife → ℕ → Option Life
owed_at [] n = None
owed_at (i ∷ is) n = if number i == n then Some i.life else owed_at is n

-- of each of so many IRPs the slots record how the pass with these steps holds it, and whether it owes it
pub record KnowsItsOwn (irps : ℕ) (steps : List Made) (held : List (Option Held)) (owed : List (Option Life)) : Type 0 where
  pub held_for : length held ≡ irps
  pub owed_for : length owed ≡ irps
  pub held_is : (n : ℕ) → n < irps → slot_at held n ≡ held_at steps (held_list steps) n
  pub owed_is : (n : ℕ) → n < irps → slot_at owed n ≡ owed_at (owed_list steps) n

-- the slots once the pass got this IRP by a removal or not, if it got one
abbrev pub with_held : Bool → Option IrpLife → List (Option Held) → List (Option Held)
with_held by_removal None held = held
with_held by_removal (Some i) held = slice_set held (number i) (Some (record { removed = by_removal; life = i.life }))

-- how the pass holds an IRP after a put-back of it that returned this: no longer, or as cancelled
abbrev pub held_after_back : InsertAnswer IrpLife IrpLife → Option Held
held_after_back (Pending context) = None
held_after_back (Cancelled token) = Some (record { removed = false; life = token.life })
