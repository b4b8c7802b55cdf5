-- What is reported for runs.
use Rattle.std.proofs.Common.{◌≡◌, ℕ, ◌+◌, ◌<◌, Bool, true, false, List, [], ◌++◌, codes, Option, refl, ap, subst, sym, add-one, arith}
use Rattle.std.specs.Io.KnownBytes.{Keeps}
use Rattle.std.proofs.KnownBytes.{Appends-nil, Appends-trans, Appends-kept}
use Rattle.std.specs.declared.time.Duration.{Duration}
use Rattle.csq_device.specs.declared.plan.Plan.{Plan}
use Rattle.csq_device.specs.declared.totals.Totals.{Totals}
use Rattle.csq_program.specs.Totals.{line, has_busy, totals_text, run_text, counts_text, reported_text, AreTotalsOf, IsRunText, WritesRun, WritesRuns, WritesFewerRuns}

-- the first lines are those of the plan
first_lines : (plan : Plan) (t : Totals) → AreTotalsOf plan t → totals_text t ≡ run_text plan.irps
first_lines plan t h =
    let irps = h.irps in
    let sum = h.sum in
    let handed = h.handed in
    let accounted : t.home + t.listed + t.handed ≡ plan.irps = omega arith in
    λ k. line (codes "irps ") (irps k) ++ line (codes "accounted ") (accounted k) ++ line (codes "cancelled and listed ") (h.flagged k)

-- what is reported for totals of a plan's device is reported for a run of the plan
pub reported_run : (plan : Plan) (t : Totals) (took : Option Duration) (all : Bool) → AreTotalsOf plan t → IsRunText plan all (reported_text all (has_busy plan) t took)
reported_run plan t took false h = first_lines plan t h
reported_run plan t took true h = (t, took, h, ap (λ (text : List ℕ). text ++ counts_text (has_busy plan) t took) (first_lines plan t h))

-- no run
pub runs_none : (plan : Plan) (all : Bool) (known : Option (List ℕ)) → WritesRuns plan all 0 known known
runs_none plan all known = ([], refl, Appends-nil known)

-- one run more
pub runs_more : (plan : Plan) (all : Bool) (n : ℕ) (old mid new : Option (List ℕ)) → WritesRuns plan all n old mid → WritesRun plan all mid new → WritesRuns plan all (n + 1) old new
runs_more plan all n old mid new (before, are, grown) (last, is, more) =
    subst (λ (m : ℕ). WritesRuns plan all m old new) (sym (add-one n)) (before ++ last, (before, last, are, is, refl), Appends-trans old mid new before last grown more)

-- a run that wrote nothing
pub runs_end : (plan : Plan) (all : Bool) (n most : ℕ) (old mid new : Option (List ℕ)) → n < most → WritesRuns plan all n old mid → Keeps mid new → WritesFewerRuns plan all most old new
runs_end plan all n most old mid new few (text, are, grown) kept = (n, few, (text, are, Appends-kept old mid new text grown kept))
