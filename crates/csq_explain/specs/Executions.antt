-- An execution, followed line by line: the contracts of what follows it.
use Rattle.std.specs.Prelude.{◌≡◌, ℕ, List, ◌∷◌, Option, Some, None}
use Rattle.irp_core.specs.declared.standing.IrpPlace.{IrpPlace, TheVariants.{Home, Listed, HeldBy, Completed}}
use Rattle.irp_core.specs.declared.status.NtStatus.{NtStatus}
use Rattle.irp_core.specs.declared.step.{Kind.{Kind, TheVariants.{Done}}, Made.{Made}}
use Rattle.irp_core.specs.Completion.{IsPlace}
use Rattle.irp_core.specs.Lives.{present}
use Rattle.irp_core.specs.MachineState.{Agrees, size_of}
use Rattle.irp_core.specs.Runs.{Size, IsInLimits}
use Rattle.csq_replay.specs.declared.schedule.outcome.Outcome.{Outcome, TheVariants.{Skipped, Accepted, Stopped}}
use Rattle.csq_replay.specs.Outcomes.{ComesTo}
use Rattle.csq_replay.specs.Schedule.{Numbered, run_of}
use Rattle.csq_explain.specs.declared.execution.{Execution.{Execution}, Explained.{Explained}}
use Rattle.csq_explain.specs.declared.execution.Explained.TheVariants as explained
use Rattle.csq_explain.specs.declared.reasons.Reason.{Reason}
use Rattle.csq_explain.specs.Irps.{all_irps}
use Rattle.csq_explain.specs.Passes.{all_passes}
use Rattle.csq_explain.specs.Reasons.{reason_of}
use Rattle.csq_explain.specs.Sentences.{in_call}

-- the machine agrees with the steps W, and the passes and IRPs are as these left them
pub record Follows {A : Type 0} (size : Size) (execution : Execution A) (W : List Numbered) : Type 0 where
  pub same : size_of execution.machine ≡ size
  pub limits : IsInLimits size
  pub agrees : Agrees execution.machine (run_of W)
  pub passes : execution.passes.items ≡ all_passes size W
  pub irps : execution.irps.items ≡ all_irps size W

-- it follows some execution
abbrev pub IsFollowing : {A : Type 0} → Execution A → Type 0
IsFollowing execution = (size : Size) × (W : List Numbered) × Follows size execution W

-- the steps after the nth line, which follows the steps W
abbrev pub steps_after : List Numbered → ℕ → Outcome → List Numbered
steps_after W n (Accepted m) = record { line = n; step = m } ∷ W
steps_after W n _ = W

-- what is known of what comes of a line after the steps W
abbrev pub explained_of : Size → List Numbered → Outcome → Explained
explained_of size W Skipped = explained.Skipped
explained_of size W (Accepted m) = explained.Accepted (in_call (run_of W) m)
explained_of size W (Stopped stop) = explained.Stopped (reason_of size W stop)

-- after the steps W this comes of the nth line, and is reported so, and the execution goes on
abbrev pub Explains : {A : Type 0} → Size → List Numbered → ℕ → List ℕ → Explained → Execution A → Type 0
Explains size W n line reported new = (comes : Outcome) × ComesTo size (run_of W) line comes × (reported ≡ explained_of size W comes) × Follows size new (steps_after W n comes)

-- after the steps W the nth line ends the handling for this reason
abbrev pub StopsFor : Size → List Numbered → ℕ → List ℕ → Reason → Type 0
StopsFor size W n line reason = ComesTo size (run_of W) line (Stopped reason.stop) × (reason ≡ reason_of size W reason.stop)

-- the status with which an IRP at this place was completed
abbrev pub status_of_place : IrpPlace → Option NtStatus
status_of_place Home = None
status_of_place Listed = None
status_of_place (HeldBy p) = None
status_of_place (Completed status p) = Some status

-- after E, it is the status of the IRP that a step of this kind completed, if it did
abbrev pub IsStatusAfter : Size → List Made → Kind → Option NtStatus → Type 0
IsStatusAfter size E (Done i) status = (place : IrpPlace) × IsPlace E (present size.first E i.irp) place × (status ≡ status_of_place place)
IsStatusAfter size E _ status = status ≡ None
