-- What is known of each IRP as its steps are drawn: its last step, who wrote its words, who has it, and who completed it.
use Rattle.std.specs.Prelude.{ℕ, ◌==◌, nat_lt, Bool, List, [], ◌∷◌, take, count_by, is_some, slice_index_or, slice_set, Option, Some, None, if◌then◌else◌}
use Rattle.std.specs.Option.{option_map_or}
use Rattle.irp_core.specs.declared.ids.IrpId.{IrpId}
use Rattle.irp_core.specs.declared.inside.Inside.{Inside, TheVariants.{Cancelling}}
use Rattle.irp_core.specs.declared.step.Kind.{Kind, TheVariants.{Arm, Disarm, Flag, Take, Out, Done, Renew, Rearm}}
use Rattle.irp_core.specs.Steps.{number, name_of}
use Rattle.csq_draw.specs.declared.irps.{Spot.{Spot}, Claim.{Claim}, LastSeen.{LastSeen}, IrpNow.{IrpNow}}
use Rattle.csq_draw.specs.declared.rows.Row.{Row}
use Rattle.csq_explain.specs.declared.word_values.WordValues.{WordValues}

-- where a step is drawn, its line, and its pass
abbrev pub spot_of : Row → Spot
spot_of row = record { row = row.row; line = row.line; pass = row.step.made.pass }

-- who set the Cancel flag, after this kind of step at this spot: the pass that found it clear, until the next life
abbrev pub flag_after : Kind → ℕ → Spot → Option Spot → Option Spot
flag_after (Flag i) found spot before = if found == 0 then Some spot else before
flag_after (Renew i) found spot before = None
flag_after _ found spot before = before

-- who set the cancel routine that is there, after this kind of step: none once an exchange has found it
abbrev pub routine_after : Kind → ℕ → Spot → Option Spot → Option Spot
routine_after (Arm i) found spot before = Some spot
routine_after (Rearm i) found spot before = Some spot
routine_after (Disarm i) found spot before = if found == 1 then None else before
routine_after (Take i) found spot before = if found == 1 then None else before
routine_after (Renew i) found spot before = None
routine_after _ found spot before = before

-- how an IRP's owner came to have it, after this kind of step by a pass inside of x: by a claim or by taking it out; it has no owner once it is completed or put back
abbrev pub claim_by : Kind → ℕ → Inside → Spot → Option Claim → Option Claim
claim_by (Take i) found x spot before = if found == 1 then Some (record { spot = spot; by = Cancelling i }) else before
claim_by (Disarm i) found x spot before = if found == 1 then Some (record { spot = spot; by = x }) else before
claim_by (Out i) found x spot before = Some (record { spot = spot; by = Cancelling i })
claim_by (Done i) found x spot before = None
claim_by (Rearm i) found x spot before = None
claim_by (Renew i) found x spot before = None
claim_by _ found x spot before = before

-- who completed an IRP, after this kind of step
abbrev pub done_after : Kind → Spot → Option Spot → Option Spot
done_after (Done i) spot before = Some spot
done_after (Renew i) spot before = None
done_after _ spot before = before

-- the last step of an IRP, with the words after it
abbrev pub last_by : ℕ → Option WordValues → Option LastSeen → Option LastSeen
last_by row (Some words) before = Some (record { row = row; words = words })
last_by row None before = before

abbrev pub last_after : Row → Option LastSeen → Option LastSeen
last_after row before = last_by row.row row.words before

-- an IRP that no step has named
abbrev pub new_irp : IrpNow
new_irp = record { last = None; flag = None; routine = None; claim = None; done = None }

-- what is known of an IRP after a step of it
abbrev pub irp_after : IrpNow → Row → IrpNow
irp_after before row = record {
  last = last_after row before.last;
  flag = flag_after row.step.made.kind row.step.made.found (spot_of row) before.flag;
  routine = routine_after row.step.made.kind row.step.made.found (spot_of row) before.routine;
  claim = claim_by row.step.made.kind row.step.made.found row.step.inside (spot_of row) before.claim;
  done = done_after row.step.made.kind (spot_of row) before.done;
}

-- of these, what is known of IRP n, and of the one that a step of this kind names
abbrev pub irp_at : List IrpNow → IrpId → IrpNow
irp_at irps n = slice_index_or irps n.0 new_irp

abbrev pub irp_named : List IrpNow → Kind → IrpNow
irp_named irps k = option_map_or (λ i. irp_at irps i.irp) (name_of k) new_irp

-- after a step of an IRP's words (one that shows none is of another life, or of no IRP, and changes nothing)
abbrev pub with_irp : List IrpNow → Row → List IrpNow
with_irp irps row = option_map_or (λ (w : WordValues). slice_set irps (number w.name) (irp_after (irp_at irps w.name.irp) row)) row.words irps

-- and after all of these steps, in order
abbrev pub irps_after : List IrpNow → List Row → List IrpNow
irps_after irps [] = irps
irps_after irps (row ∷ rows) = irps_after (with_irp irps row) rows

-- how many of these a step names: each has a column for each of its words
abbrev pub irp_columns : List IrpNow → ℕ
irp_columns irps = count_by (λ (now : IrpNow). is_some now.last) irps

-- the place of IRP n among those that a step names, from 0 on
abbrev pub irp_column : List IrpNow → IrpId → ℕ
irp_column irps n = irp_columns (take n.0 irps)
