-- What a run of a device is answered.
use Rattle.std.specs.Prelude.{◌≡◌, ℕ, nat_lt, zero, suc, ◌+◌, ◌*◌, ◌/◌, ◌%◌, ◌-◌, ◌<◌, ◌≤◌, min, Bool, true, false, List, [], ◌++◌, length, replicate, codes, decimal, Option, Some, None}
use Rattle.std.specs.Io.KnownBytes.{Appends}
use Rattle.std.specs.Duration.{as_nanos}
use Rattle.std.specs.declared.time.Duration.{Duration}
use Rattle.csq_device.specs.declared.plan.Plan.{Plan}
use Rattle.csq_device.specs.declared.totals.Totals.{Totals}
use Rattle.csq_device.specs.declared.refusals.RunRefused.{RunRefused, TheVariants.{Memory, Spawn, NotClosed}}
use Rattle.csq_program.specs.declared.device_run.RunFault.{RunFault}
use Rattle.csq_program.specs.declared.device_run.RunFault.TheVariants as fault

-- a line that says how many of something there are
abbrev pub line : List ℕ → ℕ → List ℕ
line words n = words ++ decimal n ++ codes "\n"

-- such a line, if there is one
abbrev pub line_if : Bool → List ℕ → ℕ → List ℕ
line_if false words n = []
line_if true words n = line words n

-- the first lines of a device's totals
abbrev pub totals_text : Totals → List ℕ
totals_text t = line (codes "irps ") t.irps ++ line (codes "accounted ") (t.home + t.listed + t.handed) ++ line (codes "cancelled and listed ") t.flagged_listed

-- the lines of a run over this number of IRPs: each is accounted for, and none is both cancelled and listed
abbrev pub run_text : ℕ → List ℕ
run_text irps = line (codes "irps ") irps ++ line (codes "accounted ") irps ++ line (codes "cancelled and listed ") 0

-- the lines of where the IRPs are, and with which status they were completed
abbrev pub states_text : Totals → List ℕ
states_text t = line (codes "home ") t.home ++ line (codes "listed ") t.listed ++ line (codes "completed ") t.completed ++ line (codes "succeeded ") t.succeeded ++ line (codes "cancelled ") t.cancelled

-- the lines of who completed them, of busy workers if there are some
abbrev pub completions_text : Bool → Totals → List ℕ
completions_text busy t = line (codes "completed by submitters ") t.inserts.completed ++ line (codes "completed by workers ") t.removals.completed ++ line (codes "completed by cancellers ") t.cancels.completed ++ line (codes "completed by cleanup ") t.cleaned ++ line_if busy (codes "completed by busy workers ") t.put_backs.completed

-- the lines of the cancels that took no routine: all; those before an insert, during one, and after a removal
abbrev pub missed_text : Totals → List ℕ
missed_text t = line (codes "cancels too early or too late ") (t.cancels.made - t.cancels.completed) ++ line (codes "cancels before the insert ") (t.flagged_home + (t.inserts.completed - t.raced)) ++ line (codes "cancels during the insert ") t.raced ++ line (codes "cancels after the removal ") (t.cancels.made - t.cancels.completed - (t.flagged_home + t.inserts.completed))

-- the lines of the calls that the threads made, with the put-backs of busy workers if there are some
abbrev pub calls_text : Bool → Totals → List ℕ
calls_text busy t = line (codes "inserts ") t.inserts.made ++ line (codes "removals ") t.removals.made ++ line (codes "removals that found an IRP ") t.removals.completed ++ line (codes "cancels ") t.cancels.made ++ line (codes "cancels that took the routine ") t.cancels.completed ++ missed_text t ++ line_if busy (codes "put-backs ") t.put_backs.made

-- a number below 1,000 with three digits, zeros before it
abbrev pub three_digits : ℕ → List ℕ
three_digits n = replicate (3 - length (decimal n)) 48 ++ decimal n

-- the line of the time that a run took, in milliseconds, unless the clock failed
abbrev pub time_text : Option Duration → List ℕ
time_text (Some took) = codes "milliseconds " ++ (decimal (as_nanos took / 1_000_000) ++ (codes "." ++ (three_digits (as_nanos took / 1_000 % 1_000) ++ codes "\n")))
time_text None = codes "milliseconds unknown\n"

-- the extra lines of a run that is reported with its totals, with or without busy workers
abbrev pub counts_text : Bool → Totals → Option Duration → List ℕ
counts_text busy t took = states_text t ++ completions_text busy t ++ calls_text busy t ++ time_text took

-- what is reported for a run
abbrev pub reported_text : Bool → Bool → Totals → Option Duration → List ℕ
reported_text false busy t took = totals_text t
reported_text true busy t took = totals_text t ++ counts_text busy t took

-- the plan has busy workers
abbrev pub has_busy : Plan → Bool
has_busy plan = nat_lt 0 plan.busy_workers

-- totals with which a device of this plan may end
pub record AreTotalsOf (plan : Plan) (t : Totals) : Type 0 where
  pub irps : t.irps ≡ plan.irps
  pub sum : t.home + t.listed + t.completed ≡ t.irps
  pub flagged : t.flagged_listed ≡ 0
  pub statuses : t.succeeded + t.cancelled ≤ t.completed
  pub handed : t.handed ≡ t.completed
  pub kinds : t.inserts.completed + t.removals.completed + t.cancels.completed + t.put_backs.completed + t.cleaned ≡ t.handed
  pub inserts : t.inserts.made ≡ min plan.irps (plan.submitters * plan.turns)
  pub removals : t.removals.made ≡ plan.workers * plan.turns
  pub cancels : t.cancels.made ≡ min plan.irps (plan.cancellers * plan.turns)
  pub put_backs : t.put_backs.made ≤ plan.busy_workers * plan.turns

-- what is reported for a run of the plan: the three lines, and with its totals the further ones
abbrev pub IsRunText : Plan → Bool → List ℕ → Type 0
IsRunText plan false text = text ≡ run_text plan.irps
IsRunText plan true text = (t : Totals) × (took : Option Duration) × AreTotalsOf plan t × (text ≡ run_text plan.irps ++ counts_text (has_busy plan) t took)

-- known bytes grow by what is reported for a run
abbrev pub WritesRun : Plan → Bool → Option (List ℕ) → Option (List ℕ) → Type 0
WritesRun plan totals old new = (text : List ℕ) × IsRunText plan totals text × Appends old new text

-- what is reported for n runs, one after the other
abbrev pub AreRunTexts : Plan → Bool → ℕ → List ℕ → Type 0
AreRunTexts plan totals zero text = text ≡ []
AreRunTexts plan totals (suc n) text = (before : List ℕ) × (last : List ℕ) × AreRunTexts plan totals n before × IsRunText plan totals last × (text ≡ before ++ last)

-- known bytes grow by what is reported for n runs
abbrev pub WritesRuns : Plan → Bool → ℕ → Option (List ℕ) → Option (List ℕ) → Type 0
WritesRuns plan totals n old new = (text : List ℕ) × AreRunTexts plan totals n text × Appends old new text

-- known bytes grow by what is reported for fewer runs than these
abbrev pub WritesFewerRuns : Plan → Bool → ℕ → Option (List ℕ) → Option (List ℕ) → Type 0
WritesFewerRuns plan totals n old new = (done : ℕ) × (done < n) × WritesRuns plan totals done old new

-- the fault that a device's refusal is reported as
abbrev pub fault_of : RunRefused → RunFault
fault_of Memory = fault.Memory
fault_of Spawn = fault.Spawn
fault_of NotClosed = fault.NotClosed
