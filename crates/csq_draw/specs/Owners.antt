-- Who owes an IRP, or holds it, since which row of the picture, and in which lane.
use Rattle.std.specs.Prelude.{ℕ, ◌==◌, Bool, false, List, [], ◌∷◌, length, Option, Some, None, if◌then◌else◌}
use Rattle.std.specs.Option.{option_map_or}
use Rattle.irp_core.specs.declared.ids.{IrpId.{IrpId}, PassId.{PassId}}
use Rattle.irp_core.specs.declared.step.{Kind.{Kind, TheVariants.{Disarm, Take, Out, Done, Rearm}}, Made.{Made}}
use Rattle.irp_core.specs.Steps.{same_id, name_of}
use Rattle.csq_draw.specs.declared.owners.{Having.{Having, TheVariants.{Owes, Holds}}, Owner.{Owner}}
use Rattle.csq_draw.specs.Lanes.{lane_for}
use Rattle.csq_explain.specs.Tables.{table}

-- whether a step of this kind is of IRP n, in any of its lives
abbrev pub is_of_irp : IrpId → Kind → Bool
is_of_irp n k = option_map_or (λ i. same_id i.irp n) (name_of k) false

-- how the pass of this kind of step has its IRP from then on, if the step claims the IRP or takes it out
abbrev pub having_after : Kind → ℕ → Option Having
having_after (Take i) found = if found == 1 then Some Owes else None
having_after (Disarm i) found = if found == 1 then Some Holds else None
having_after (Out i) found = Some Holds
having_after _ found = None

-- who has an IRP after this kind of step of it, by p on this row: the pass that claimed it or took it out, in this lane, and none once it is completed or put back
abbrev pub owner_by : Kind → ℕ → PassId → ℕ → ℕ → Option Owner → Option Owner
owner_by (Take i) found p row lane before = if found == 1 then Some (record { name = i; pass = p; having = Owes; row = row; lane = lane }) else before
owner_by (Disarm i) found p row lane before = if found == 1 then Some (record { name = i; pass = p; having = Holds; row = row; lane = lane }) else before
owner_by (Out i) found p row lane before = Some (record { name = i; pass = p; having = Holds; row = row; lane = lane })
owner_by (Done i) found p row lane before = None
owner_by (Rearm i) found p row lane before = None
owner_by _ found p row lane before = before

-- and so after a step on this row, before which all IRPs had these owners
abbrev pub owner_after : List (Option Owner) → Option Owner → Made → ℕ → Option Owner
owner_after os before m row = owner_by m.kind m.found m.pass row (lane_for os m.pass before) before

-- who has IRP n of this number after E, if each step has a row, from 0 on
abbrev pub owner : ℕ → List Made → IrpId → Option Owner
owner irps [] n = None
owner irps (m ∷ E) n = if is_of_irp n m.kind then owner_after (table (λ k. owner irps E (record { 0 = k })) irps) (owner irps E n) m (length E) else owner irps E n

-- whose time with an IRP a step of this kind ends
abbrev pub ended_by : Kind → Option Owner → Option Owner
ended_by (Out i) before = before
ended_by (Done i) before = before
ended_by (Rearm i) before = before
ended_by _ before = None

-- who had the IRP that a step of this kind names
abbrev pub owner_named : ℕ → List Made → Kind → Option Owner
owner_named irps E k = option_map_or (λ i. owner irps E i.irp) (name_of k) None

-- who has each of this number of IRPs
abbrev pub owners : ℕ → List Made → List (Option Owner)
owners irps E = table (λ n. owner irps E (record { 0 = n })) irps
