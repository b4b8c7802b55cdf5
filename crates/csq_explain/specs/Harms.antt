-- What goes wrong in an order that may break the protocol: at a step, and in the end. The orders have their newest step first.
use Rattle.std.specs.Prelude.{ℕ, ◌&&◌, List, [], ◌∷◌, ◌++◌, codes, decimal, Option, Some, None, if◌then◌else◌}
use Rattle.std.specs.Option.{option_and_then}
use Rattle.irp_core.specs.declared.ids.IrpLife.{IrpLife}
use Rattle.irp_core.specs.declared.step.{Kind.{Kind, TheVariants.{Arm, Out, Done, Renew, Rearm}}}
use Rattle.irp_core.specs.Standings.{names}
use Rattle.irp_core.specs.Steps.{name_of}
use Rattle.irp_core.specs.Texts.{name_text, pass_text}
use Rattle.csq_explain.specs.declared.harms.{Harm.{Harm, TheVariants.{Twice, RoutineSet, TakenOut, NotListed, Relisted, ListedTwice, Reused, OtherLife, Stray, Lost, StillListed}}, HarmAt.{HarmAt}}
use Rattle.csq_explain.specs.declared.irp_record.IrpRecord.{IrpRecord}
use Rattle.csq_explain.specs.declared.line_steps.LineStep.{LineStep}
use Rattle.csq_explain.specs.IrpRecords.{record_after, records}
use Rattle.csq_explain.specs.LineSteps.{completed_in_line, step_in_line}

abbrev pub at_step : LineStep → Harm → HarmAt
at_step x harm = record { step = x; harm = harm }

-- an IRP that isn't cancelled was claimed by this take, if there is one
abbrev pub stray_harm : Option LineStep → Option HarmAt
stray_harm (Some take) = Some (at_step take Stray)
stray_harm None = None

-- x completes an IRP of this record: it was completed before; its routine is set, so that a cancel will call it; or a stray take claimed it
abbrev pub done_harm : IrpRecord → LineStep → Option LineStep → Option HarmAt
done_harm r x (Some first) = Some (at_step x (Twice first))
done_harm r x None = if r.words.routine then Some (at_step x RoutineSet) else stray_harm r.stray

-- x takes it out of the list, and it was completed before, or isn't in the list
abbrev pub out_harm : LineStep → Option LineStep → Option LineStep → Option HarmAt
out_harm x (Some first) listed = Some (at_step x (TakenOut first))
out_harm x None (Some listed) = None
out_harm x None None = Some (at_step x NotListed)

-- x lists it, and it was completed before, or is in the list
abbrev pub list_harm : LineStep → Option LineStep → Option LineStep → Option HarmAt
list_harm x (Some first) listed = Some (at_step x (Relisted first))
list_harm x None (Some listed) = Some (at_step x (ListedTwice listed))
list_harm x None None = None

-- x begins its next life, and it is in the list
abbrev pub reuse_harm : LineStep → Option LineStep → Option HarmAt
reuse_harm x (Some listed) = Some (at_step x (Reused listed))
reuse_harm x None = None

-- x is a step of its life and of this kind
abbrev pub own_harm : IrpRecord → LineStep → Kind → Option HarmAt
own_harm r x (Arm i) = list_harm x r.done r.listed
own_harm r x (Out i) = out_harm x r.done r.listed
own_harm r x (Done i) = done_harm r x r.done
own_harm r x (Renew i) = reuse_harm x r.listed
own_harm r x (Rearm i) = list_harm x r.done r.listed
own_harm r x _ = None

-- x is a step of another life: nothing compares the life of what is taken out or completed
abbrev pub other_harm : IrpRecord → LineStep → Kind → Option HarmAt
other_harm r x (Out i) = Some (at_step x (OtherLife r.words.name))
other_harm r x (Done i) = Some (at_step x (OtherLife r.words.name))
other_harm r x _ = None

-- what goes wrong at x, which names the IRP of this record
abbrev pub harm_at : IrpRecord → LineStep → Option HarmAt
harm_at r x = if names r.words.name x.made.kind then own_harm r x x.made.kind else other_harm r x x.made.kind

-- what goes wrong at x after these steps
abbrev pub step_harm : List LineStep → LineStep → Option HarmAt
step_harm V x = option_and_then (λ (i : IrpLife). harm_at (record_after V i.irp) x) (name_of x.made.kind)

-- an IRP that wasn't completed is in the list with both words set: no step after the one that listed it takes its routine
abbrev pub lost_harm : IrpRecord → Option LineStep → Option HarmAt
lost_harm r (Some listed) = if r.words.flag && r.words.routine then Some (at_step listed (Lost r.words.name)) else None
lost_harm r None = None

-- a stray take claimed it, or its cancel is lost
abbrev pub open_harm : IrpRecord → Option LineStep → Option HarmAt
open_harm r (Some take) = Some (at_step take Stray)
open_harm r None = lost_harm r r.listed

-- an IRP that was completed is in the list. (If its routine is set too, that was told at the step that completed it, or that set it.)
abbrev pub left_harm : IrpRecord → LineStep → Option LineStep → Option HarmAt
left_harm r first (Some listed) = if r.words.routine then None else Some (at_step first (StillListed r.words.name))
left_harm r first None = None

-- what goes wrong in the end with an IRP of this record, which was completed or wasn't
abbrev pub end_by : IrpRecord → Option LineStep → Option HarmAt
end_by r (Some first) = left_harm r first r.listed
end_by r None = open_harm r r.stray

abbrev pub end_harm : IrpRecord → Option HarmAt
end_harm r = end_by r r.done

abbrev pub harm_list : Option HarmAt → List HarmAt
harm_list (Some harm) = harm ∷ []
harm_list None = []

-- what goes wrong at these steps, in their order
abbrev pub step_harms : List LineStep → List HarmAt
step_harms [] = []
step_harms (x ∷ V) = step_harms V ++ harm_list (step_harm V x)

-- what goes wrong in the end with IRPs of these records
abbrev pub end_harms : List IrpRecord → List HarmAt
end_harms [] = []
end_harms (r ∷ rs) = harm_list (end_harm r) ++ end_harms rs

-- what goes wrong in an order over this number of IRPs
abbrev pub harms_of : ℕ → List LineStep → List HarmAt
harms_of irps V = step_harms V ++ end_harms (records irps V)

-- the cancel of i is lost, whose routine x set last
abbrev pub lost_text : LineStep → IrpLife → List ℕ
lost_text x i = codes "IRP " ++ (name_text i ++ (codes " loses its cancel: its Cancel flag is set, and no line after line " ++ (decimal x.line ++ (codes " takes the routine that " ++ (pass_text x.made.pass ++ codes " set there")))))

-- i is in the list in the end, which x completed first
abbrev pub left_text : LineStep → IrpLife → List ℕ
left_text x i = codes "IRP " ++ (name_text i ++ (codes " is in the list in the end, though " ++ (pass_text x.made.pass ++ (codes " completed it in line " ++ decimal x.line))))

-- an IRP is in the list, into which x put it
abbrev pub linked_text : LineStep → List ℕ
linked_text x = codes "an IRP that has been in the list since line " ++ decimal x.line

-- what goes wrong at a step, in a sentence
abbrev pub harm_text : LineStep → Harm → List ℕ
harm_text x (Twice first) = codes "harm: " ++ (step_in_line x ++ (codes " completes what " ++ (completed_in_line first ++ codes ": MULTIPLE_IRP_COMPLETE_REQUESTS (0x44)")))
harm_text x RoutineSet = codes "harm: " ++ (step_in_line x ++ codes " completes an IRP whose cancel routine is set: CANCEL_STATE_IN_COMPLETED_IRP (0x48)")
harm_text x (TakenOut first) = codes "harm: " ++ (step_in_line x ++ (codes " unlinks what " ++ completed_in_line first))
harm_text x NotListed = codes "harm: " ++ (step_in_line x ++ codes " unlinks an IRP that isn't in the list")
harm_text x (Relisted first) = codes "harm: " ++ (step_in_line x ++ (codes " lists what " ++ completed_in_line first))
harm_text x (ListedTwice listed) = codes "harm: " ++ (step_in_line x ++ (codes " lists " ++ linked_text listed))
harm_text x (Reused listed) = codes "harm: " ++ (step_in_line x ++ (codes " reuses " ++ linked_text listed))
harm_text x (OtherLife i) = codes "harm: " ++ (step_in_line x ++ (codes " is for another life of the IRP, whose present life is " ++ name_text i))
harm_text x Stray = codes "harm: " ++ (step_in_line x ++ codes " takes the routine of an IRP that isn't cancelled: its Cancel flag is clear")
harm_text x (Lost i) = codes "harm: " ++ lost_text x i
harm_text x (StillListed i) = codes "harm: " ++ left_text x i
