-- What C reads and writes beside the handle of a replay.
use Rattle.std.specs.Prelude.{◌≡◌, ℕ, ◌==◌, Bool, List, Option, Some, None, Result, Ok, Err, if◌then◌else◌}
use Rattle.irp_core.specs.declared.ids.{IrpId.{IrpId}, IrpLife.{IrpLife}, PassId.{PassId}}
use Rattle.irp_core.specs.declared.inside.Inside.{Inside, TheVariants.{Nothing, Armed, FlagSeen, Removing, Cancelling, Rearmed, FlagSeenAgain}}
use Rattle.irp_core.specs.declared.refusals.StepRefused.{StepRefused, TheVariants.{UnknownIrp, UnknownPass, LockHeld, NotNext, NotHome, NotListed, NotOwed, NotHeld, Stale, NotCompleted, LivesSpent}}
use Rattle.irp_core.specs.declared.standing.IrpPlace.{IrpPlace, TheVariants.{Home, Listed, HeldBy, Completed}}
use Rattle.irp_core.specs.declared.step.{Kind.{Kind, TheVariants.{Arm, Test, Disarm, End, Flag, Take, Out, Done, Renew, Rearm}}, Made.{Made}, Step.{Step}}
use Rattle.irp_core.specs.Completion.{IsPlace}
use Rattle.irp_core.specs.Lives.{present, present_life}
use Rattle.irp_core.specs.Runs.{Size}
use Rattle.irp_core.specs.Words.{flagged}
use Rattle.csq_c.specs.Replays.{Numbered, IsOwner, call_of}
use Rattle.csq_c.specs.Shapes.{flag_number, irp_named}
use Rattle.csq_c.specs.declared.codes.Code.{Code}
use Rattle.csq_c.specs.declared.codes.Code.TheVariants as code
use Rattle.csq_c.specs.declared.replay.pass_call.PassCall.{PassCall}
use Rattle.csq_c.specs.declared.replay.shapes.{CsqInside.{CsqInside}, CsqPlaced.{CsqPlaced}, CsqRefusal.{CsqRefusal}, CsqStep.{CsqStep}}
use Rattle.csq_c.specs.declared.shapes.CsqIrp.{CsqIrp}

-- the kind with this number, of this IRP
abbrev pub kind_numbered : ℕ → IrpLife → Option Kind
kind_numbered n i = if n == 1 then Some (Arm i) else if n == 2 then Some (Test i) else if n == 3 then Some (Disarm i) else if n == 4 then Some End else if n == 5 then Some (Flag i) else if n == 6 then Some (Take i) else if n == 7 then Some (Out i) else if n == 8 then Some (Done i) else if n == 9 then Some (Renew i) else if n == 10 then Some (Rearm i) else None

-- the step that a pass makes so
abbrev pub step_by : ℕ → Option Kind → Option Step
step_by p None = None
step_by p (Some k) = Some (record { pass = record { 0 = p }; kind = k })

-- the step that C names, if its kind is one
abbrev pub step_named : CsqStep → Option Step
step_named c = step_by c.pass (kind_numbered c.kind (irp_named c.irp))

-- an IRP as C names it
abbrev pub c_name : IrpLife → CsqIrp
c_name i = record { irp = i.irp.0; life = i.life.0 }

-- a pass that is inside of this, since the step with this number
abbrev pub inside_since : Inside → ℕ → CsqInside
inside_since Nothing n = record { call = 0; next = 0; irp = record { irp = 0; life = 0 }; since = 0 }
inside_since (Armed i) n = record { call = 1; next = 2; irp = c_name i; since = n }
inside_since (FlagSeen i) n = record { call = 1; next = 3; irp = c_name i; since = n }
inside_since Removing n = record { call = 2; next = 3; irp = record { irp = 0; life = 0 }; since = n }
inside_since (Cancelling i) n = record { call = 3; next = 6; irp = c_name i; since = n }
inside_since (Rearmed i) n = record { call = 4; next = 2; irp = c_name i; since = n }
inside_since (FlagSeenAgain i) n = record { call = 4; next = 3; irp = c_name i; since = n }

abbrev pub inside_of : PassCall → CsqInside
inside_of call = inside_since call.inside call.since

-- whom p's refusal is about: the pass that has the lock, otherwise p
abbrev pub pass_asked : PassId → StepRefused → PassId
pass_asked p (LockHeld q) = q
pass_asked p _ = p

-- the present life, if the step names another
abbrev pub life_asked : StepRefused → ℕ
life_asked (Stale g) = g.0
life_asked _ = 0

-- a refusal of p's step, by what each pass is inside of
abbrev pub refusal_by : (PassId → PassCall) → PassId → StepRefused → CsqRefusal
refusal_by calls p cause = record { pass = (pass_asked p cause).0; life = life_asked cause; inside = inside_of (calls (pass_asked p cause)) }

-- what stands there once a refusal of p's step after the steps W is written, if it was refused
abbrev pub refusal_written : List Numbered → PassId → Result ℕ StepRefused → CsqRefusal → CsqRefusal
refusal_written W p (Ok found) old = old
refusal_written W p (Err cause) old = refusal_by (call_of W) p cause

-- the code of a cause
abbrev pub cause_code : StepRefused → Code
cause_code UnknownIrp = code.UnknownIrp
cause_code UnknownPass = code.UnknownPass
cause_code (LockHeld q) = code.LockHeld
cause_code NotNext = code.NotNext
cause_code NotHome = code.NotHome
cause_code NotListed = code.NotListed
cause_code NotOwed = code.NotOwed
cause_code NotHeld = code.NotHeld
cause_code (Stale g) = code.Stale
cause_code NotCompleted = code.NotCompleted
cause_code LivesSpent = code.LivesSpent

-- what a step returned
abbrev pub step_code : Result ℕ StepRefused → Code
step_code (Ok found) = code.Done
step_code (Err cause) = cause_code cause

-- an IRP in this life and at this place, which this pass owes if one does
abbrev pub placed_at : ℕ → IrpPlace → Option PassId → Bool → CsqPlaced
placed_at life Home owner flag = record { life = life; place = 0; pass = 0; status = 0; cancelled = flag_number flag }
placed_at life Listed None flag = record { life = life; place = 1; pass = 0; status = 0; cancelled = flag_number flag }
placed_at life Listed (Some p) flag = record { life = life; place = 2; pass = p.0; status = 0; cancelled = flag_number flag }
placed_at life (HeldBy p) owner flag = record { life = life; place = 3; pass = p.0; status = 0; cancelled = flag_number flag }
placed_at life (Completed status p) owner flag = record { life = life; place = 4; pass = p.0; status = status.0; cancelled = flag_number flag }

-- IRP n is there after the run E
abbrev pub IsPlacedSo : Size → List Made → IrpId → CsqPlaced → Type 0
IsPlacedSo size E n placed = (place : IrpPlace) × (owner : Option PassId) × IsPlace E (present size.first E n) place × IsOwner size E (present size.first E n) owner
    × (placed ≡ placed_at (present_life size.first E n) place owner (flagged E (present size.first E n)))
