-- How long a call waits for the lock, if that is fair: passes get it in the order in which they asked for it, and ask anew for each enter. Of the queue's lock neither is said: a call may take it where it is free, past those that wait, and `meet` enters for both of its passes, one after the other, while it has it.
use Rattle.std.specs.Prelude.{◌≡◌, ℕ, ◌<◌, ◌≤◌, Bool, false, List, [], ◌∷◌, ◌++◌, drop, length}
use Rattle.std.specs.List.{list_any}
use Rattle.irp_core.specs.Steps.{same_pass}
use Rattle.irp_core.specs.declared.ids.PassId.{PassId}
use Rattle.csq_words.specs.declared.views.Tick.{Tick, TheVariants.{Enters, Leaves, Makes, Says}}

-- a pass asks for the lock, or gets it
pub data Turn : Type 0 where
  Asks : PassId → Turn
  Gets : PassId → Turn

-- the passes that wait after these turns, the newest turn first: the one that asked first stands first
abbrev pub waiting : List Turn → List PassId
waiting [] = []
waiting (Asks p ∷ turns) = waiting turns ++ p ∷ []
waiting (Gets p ∷ turns) = drop 1 (waiting turns)

-- p is among these
abbrev pub is_among : List PassId → PassId → Bool
is_among ps p = list_any (λ q. same_pass q p) ps

-- the turns of a fair lock of this many passes: a pass asks that doesn't wait already, and that which has waited longest gets it
pub data IsFair (passes : ℕ) : List Turn → Type 0 where
  begins : IsFair passes []
  asks : (p : PassId) (turns : List Turn) → 1 ≤ p.0 → p.0 ≤ passes → is_among (waiting turns) p ≡ false → IsFair passes turns → IsFair passes (Asks p ∷ turns)
  gets : (p : PassId) (others : List PassId) (turns : List Turn) → waiting turns ≡ p ∷ others → IsFair passes turns → IsFair passes (Gets p ∷ turns)

-- the passes that got it
abbrev pub got : List Turn → List PassId
got [] = []
got (Asks p ∷ turns) = got turns
got (Gets p ∷ turns) = p ∷ got turns

-- the passes whose calls entered in an execution
abbrev pub entered_in : List Tick → List PassId
entered_in [] = []
entered_in (Enters p ∷ trace) = p ∷ entered_in trace
entered_in (Leaves p ∷ trace) = entered_in trace
entered_in (Makes m ∷ trace) = entered_in trace
entered_in (Says e ∷ trace) = entered_in trace

-- if calls enter as a fair lock is given, then while a pass waits fewer calls enter than there are passes: at most one of each other pass
abbrev pub ACallWaitsForFewOthers : Type 0
ACallWaitsForFewOthers = (passes : ℕ) (trace : List Tick) (turns : List Turn) → IsFair passes turns → entered_in trace ≡ got turns
    → (p : PassId) (since before : List Turn) → turns ≡ since ++ (Asks p ∷ before) → is_among (got since) p ≡ false
    → (entered_in trace ≡ got since ++ got before) × (length (got since) < passes)
