-- Where each IRP is, and since which line.
use Rattle.std.specs.Prelude.{ℕ, ◌+◌, ◌==◌, Bool, List, [], ◌∷◌, slice_index_or, slice_set, if◌then◌else◌}
use Rattle.std.specs.Option.{option_map_or}
use Rattle.irp_core.specs.declared.ids.{IrpId.{IrpId}, IrpLife.{IrpLife}, Life.{Life}, PassId.{PassId}}
use Rattle.irp_core.specs.declared.step.Kind.{Kind, TheVariants.{Arm, Disarm, Take, Out, Done, Renew, Rearm}}
use Rattle.irp_core.specs.Steps.{number, name_of, same_id}
use Rattle.irp_core.specs.Runs.{Size}
use Rattle.csq_replay.specs.declared.schedule.outcome.Stop.{Stop, TheVariants.{Refused}}
use Rattle.csq_replay.specs.Schedule.{Numbered}
use Rattle.csq_explain.specs.declared.irps.{IrpState.{IrpState}, LastMove.{LastMove, TheVariants.{Unmoved, Pending, OwedBy, GotBy, CompletedBy, Renewed}}}
use Rattle.csq_explain.specs.Tables.{table}

-- an IRP that no step has moved
abbrev pub new_irp : IrpState
new_irp = record { moved = Unmoved; life = record { 0 = 0 } }

-- i, moved so
abbrev pub moved_to : IrpLife → LastMove → IrpState
moved_to i moved = record { moved = moved; life = i.life }

-- an IRP after a step of it of this kind, by p in this line: an exchange moves it if it finds the cancel routine
abbrev pub moved_by : Kind → ℕ → PassId → ℕ → IrpState → IrpState
moved_by (Arm i) found p line before = moved_to i (Pending line)
moved_by (Rearm i) found p line before = moved_to i (Pending line)
moved_by (Take i) found p line before = if found == 1 then moved_to i (OwedBy p line) else before
moved_by (Disarm i) found p line before = if found == 1 then moved_to i (GotBy p line) else before
moved_by (Out i) found p line before = moved_to i (GotBy p line)
moved_by (Done i) found p line before = moved_to i (CompletedBy p line)
moved_by (Renew i) found p line before = moved_to i (Renewed line)
moved_by _ found p line before = before

-- whether an IRP is in the life of this number: after a renew in the one that follows that of the step
abbrev pub is_life : LastMove → ℕ → ℕ → Bool
is_life (Renewed line) own life = life == own + 1
is_life _ own life = life == own

abbrev pub is_in : IrpState → Life → Bool
is_in state life = is_life state.moved state.life.0 life.0

abbrev pub irp_moved : IrpState → Numbered → IrpState
irp_moved before w = moved_by w.step.kind w.step.found w.step.pass w.line before

-- IRP n after the steps W
abbrev pub irp_state : List Numbered → IrpId → IrpState
irp_state [] n = new_irp
irp_state (w ∷ W) n = option_map_or (λ i. if same_id i.irp n then irp_moved (irp_state W n) w else irp_state W n) (name_of w.step.kind) (irp_state W n)

-- the IRPs that there are, after the steps W
abbrev pub all_irps : Size → List Numbered → List IrpState
all_irps size W = table (λ n. irp_state W (record { 0 = n })) size.irps

-- of these, IRP n
abbrev pub irp_at : List IrpState → IrpId → IrpState
irp_at irps n = slice_index_or irps n.0 new_irp

-- these IRPs after one more step
abbrev pub irps_moved : List IrpState → Numbered → List IrpState
irps_moved irps w = option_map_or (λ i. slice_set irps (number i) (irp_moved (irp_at irps i.irp) w)) (name_of w.step.kind) irps

-- of these, the one that a line's end is a matter of, if there is one
abbrev pub irp_asked : List IrpState → Stop → IrpState
irp_asked irps (Refused s cause) = option_map_or (λ i. irp_at irps i.irp) (name_of s.kind) new_irp
irp_asked irps _ = new_irp
