-- What the handle of a replay stands for, and the steps that led to it.
use Rattle.std.specs.Prelude.{◌≡◌, ℕ, ◌+◌, ◌≤◌, true, false, List, [], ◌∷◌, length, map, Option, Some, None, Result, IfOk, IfErr, IsOk, OnErr, slice_index_or, if◌then◌else◌}
use Rattle.irp_core.specs.declared.ids.{PassId.{PassId}, IrpLife.{IrpLife}}
use Rattle.irp_core.specs.declared.inside.Inside.{Inside, TheVariants.{Nothing}}
use Rattle.irp_core.specs.declared.refusals.StepRefused.{StepRefused}
use Rattle.irp_core.specs.declared.step.{Made.{Made}, Step.{Step}}
use Rattle.irp_core.specs.Inside.{inside, inside_after, is_outside}
use Rattle.irp_core.specs.MachineState.{MachineState, Agrees, size_of}
use Rattle.irp_core.specs.Owners.{owes}
use Rattle.irp_core.specs.Refusals.{IsFirstCause}
use Rattle.irp_core.specs.Runs.{Size, IsInLargeLimits, IsRun}
use Rattle.irp_core.specs.Steps.{made, same_pass}
use Rattle.csq_c.specs.declared.replay.pass_call.PassCall.{PassCall}
use Rattle.csq_c.specs.declared.shapes.CsqSize.{CsqSize}

-- a machine, and what each pass is inside of, by its number
pub record ReplayState : Type 0 where
  pub machine : MachineState
  pub calls : List PassCall

-- a step that was made, and its caller's number of it
pub record Numbered : Type 0 where
  pub number : ℕ
  pub step : Made

-- the run of these steps
abbrev pub run_of : List Numbered → List Made
run_of W = map (λ w. w.step) W

-- the number with which a call began, after a step with this number: the step's own if the pass was inside of none
abbrev pub begun_at : Inside → ℕ → ℕ → ℕ
begun_at before number since = if is_outside before then number else since

-- the number of the step with which p's call began, or its last one
abbrev pub since : List Numbered → PassId → ℕ
since [] p = 0
since (w ∷ W) p = if same_pass w.step.pass p then begun_at (inside (run_of W) p) w.number (since W p) else since W p

-- what p is inside of after the steps W, and since which
abbrev pub call_of : List Numbered → PassId → PassCall
call_of W p = record { inside = inside (run_of W) p; since = since W p }

-- a pass that made no step
abbrev pub no_call : PassCall
no_call = record { inside = Nothing; since = 0 }

-- a pass after a step with this number
abbrev pub call_after : PassCall → ℕ → Made → PassCall
call_after before number m = record { inside = inside_after before.inside m.kind m.found; since = begun_at before.inside number before.since }

-- what the replay has of p
abbrev pub call_at : ReplayState → PassId → PassCall
call_at s p = slice_index_or s.calls p.0 no_call

-- how many IRPs and passes it has
abbrev pub size_in : ReplayState → Size
size_in s = size_of s.machine

-- the steps W led to it
pub record Follows (s : ReplayState) (W : List Numbered) : Type 0 where
  pub agrees : Agrees s.machine (run_of W)
  pub calls : (p : PassId) → call_at s p ≡ call_of W p
  pub many : length s.calls ≡ (size_in s).passes + 1

-- some steps did
abbrev pub IsFollowed : ReplayState → Type 0
IsFollowed s = (W : List Numbered) × Follows s W

-- how large C wants a replay to be
abbrev pub replay_size : CsqSize → Size
replay_size c = record { irps = c.irps; passes = c.passes; first = c.first_life }

-- each of these numbers is in its range
abbrev pub IsGoodReplaySize : CsqSize → Type 0
IsGoodReplaySize c = IsInLargeLimits (replay_size c)

-- a replay of this size, without a step
pub record IsNewReplay (c : CsqSize) (s : ReplayState) : Type 0 where
  pub size : size_in s ≡ replay_size c
  pub unused : Follows s []

-- a step with this number is made exactly if it may come next, with what it finds, and otherwise refused for the first cause that holds
pub record MakesStep (number : ℕ) (step : Step) (answer : Result ℕ StepRefused) (s s' : ReplayState) : Type 0 where
  pub longer : (W : List Numbered) → Follows s W → IfOk answer (λ found. IsRun (size_in s) (made step found ∷ run_of W) × Follows s' (record { number = number; step = made step found } ∷ W))
  pub accepted : (W : List Numbered) (found : ℕ) → Follows s W → IsRun (size_in s) (made step found ∷ run_of W) → IsOk answer
  pub cause : (W : List Numbered) → Follows s W → IfErr answer (IsFirstCause (size_in s) (run_of W) step)
  pub refused : OnErr answer (s' ≡ s)
  pub size : size_in s' ≡ size_in s

-- p owes i, or no pass does
abbrev pub IsOwner : Size → List Made → IrpLife → Option PassId → Type 0
IsOwner size E i (Some p) = owes E p i ≡ true
IsOwner size E i None = (p : PassId) → 1 ≤ p.0 → p.0 ≤ size.passes → owes E p i ≡ false
