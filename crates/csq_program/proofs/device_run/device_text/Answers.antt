use Rattle.std.proofs.Common.{List, ℕ, ◌++◌, ◌*◌, ◌≤◌, min, ap, ◌∙◌, subst, sym}
use Rattle.csq_device.specs.declared.plan.Plan.{Plan}
use Rattle.csq_program.specs.Totals.{has_busy, reported_text, AreTotalsOf, IsRunText}
use Rattle.csq_program.proofs.RunTexts.{reported_run}
use Rattle.csq_program.proofs.device_run.device_text.Goals as goal

pub returns-clause-reported : goal.returns-clause-reported
returns-clause-reported g c =
    let found = c.in_ok-found.found in
    let reported = c.in_ok-found.ensures in
    let made = c.in-Ok.ensures.made in
    let totals : AreTotalsOf c.args.plan found = record {
      irps = reported.irps ∙ ap (λ (p : Plan). p.irps) made;
      sum = reported.sum;
      flagged = reported.flagged;
      statuses = reported.statuses;
      handed = reported.handed;
      kinds = reported.kinds;
      inserts = reported.inserts ∙ ap (λ (p : Plan). min p.irps (p.submitters * p.turns)) made;
      removals = reported.removals ∙ ap (λ (p : Plan). p.workers * p.turns) made;
      cancels = reported.cancels ∙ ap (λ (p : Plan). min p.irps (p.cancellers * p.turns)) made;
      put_backs = subst (λ (p : Plan). found.put_backs.made ≤ p.busy_workers * p.turns) made reported.put_backs;
    } in
    let text = reported_text c.args.totals (has_busy c.args.plan) found c.time_since-took.result in
    let Reports : List ℕ → Type 0 = λ t. IsRunText c.args.plan c.args.totals t in
    subst Reports (sym (c.in_ok-write_run.ensures ∙ ap (λ t. t ++ text) c.new-text.ensures.bytes)) (reported_run c.args.plan found c.time_since-took.result c.args.totals totals)
