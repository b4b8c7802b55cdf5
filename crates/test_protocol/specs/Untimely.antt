-- Wrong executions: calls that overlap, events outside of their call, and a history that isn't in real time. None of them is possible.
use Rattle.std.specs.Prelude.{◌≡◌, ℕ, List, [], ◌∷◌, ◌++◌}
use Rattle.irp_core.specs.declared.step.Kind.TheVariants.{Arm, End, Flag, Take}
use Rattle.csq_words.specs.declared.views.Tick.{Tick}
use Rattle.csq_words.specs.declared.views.Tick.TheVariants.{Enters, Leaves, Makes, Says}
use Rattle.csq_words.specs.Traces.{entries_in, IsTrace}
use Rattle.test_protocol.specs.Excluded.{pass, irp, did, inserted, found_none}

-- no execution has this beginning
abbrev pub IsNone : List Tick → Type 0
IsNone trace = (newer : List Tick) → IsTrace 0 (newer ++ trace) → ⊥

-- beginnings of executions that are none, whatever comes after, and a history that isn't in real time
pub record NoneIsInRealTime : Type 0 where
  -- a call enters while another is on its way
  pub two_inside : IsNone (Enters (pass 2) ∷ Enters (pass 1) ∷ [])
  -- a call leaves that another pass made
  pub left_by_another : IsNone (Leaves (pass 2) ∷ Enters (pass 1) ∷ [])
  -- it leaves twice
  pub left_twice : IsNone (Leaves (pass 1) ∷ Leaves (pass 1) ∷ Enters (pass 1) ∷ [])
  -- it leaves in the middle of an insert
  pub left_inside : IsNone (Leaves (pass 1) ∷ Makes (did 1 (Arm (irp 0 0)) 0) ∷ Enters (pass 1) ∷ [])
  -- a step under the lock outside of any call
  pub made_outside : IsNone (Makes (did 1 End 0) ∷ [])
  -- in the call of another pass
  pub made_by_another : IsNone (Makes (did 2 End 0) ∷ Enters (pass 1) ∷ [])
  -- a step of a cancel in a call of its own pass
  pub made_in_a_call : IsNone (Makes (did 1 (Flag (irp 0 0)) 0) ∷ Enters (pass 1) ∷ [])
  pub taken_in_a_call : IsNone (Makes (did 1 (Take (irp 0 0)) 0) ∷ Enters (pass 1) ∷ Makes (did 1 (Flag (irp 0 0)) 0) ∷ [])
  -- the event of a call after that has left
  pub said_late : IsNone (Says (found_none 1) ∷ Leaves (pass 1) ∷ Makes (did 1 End 0) ∷ Enters (pass 1) ∷ [])
  -- in the next call, of another pass
  pub said_by_another : IsNone (Says (found_none 1) ∷ Enters (pass 2) ∷ Leaves (pass 1) ∷ Makes (did 1 End 0) ∷ Enters (pass 1) ∷ [])
  -- pass 2 entered after the insert of pass 1 had left, and its removal stands in the history before the insert
  pub turned : (trace newer between older : List Tick) → IsTrace 0 trace → trace ≡ newer ++ (Enters (pass 2) ∷ (between ++ (Leaves (pass 1) ∷ older))) → entries_in older ≡ inserted 1 0 ∷ [] → entries_in newer ≡ found_none 2 ∷ []
      → entries_in trace ≡ inserted 1 0 ∷ found_none 2 ∷ [] → ⊥
