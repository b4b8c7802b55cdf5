use Rattle.std.proofs.Common.{◌≡◌, arith, ◌-◌, ◌∷◌, ◌∙◌, true, false, true≢false, List, sym, ap, subst}
use Rattle.csq_device.proofs.Imports.{PassRecord, IsRestOf, HoldsNothing, FirstAreBack, completed_count}
use Rattle.csq_device.proofs.Shifts.{handed_over, all_back}
use Rattle.csq_device.proofs.device.run_queue.Goals as goal

pub returns-in-Ok-clause-handed : goal.returns-in-Ok-clause-handed
returns-in-Ok-clause-handed g c =
    let limits = g.N.QueueName.limits in
    let shift = c.in_ok-calls.field-0 in
    let taken = limits.passes - shift.rack in
    let listing = g.L.PendingList.listing c.in-Ok.rest.list in
    let finals = c.in-Ok.rest.finals in
    let rest = subst (λ (receipts : List PassRecord). IsRestOf limits shift.pass receipts taken listing finals) c.as_mut_slice.ensures.value c.in-Ok.ensures.rest in
    c.totals_of.ensures.handed
    ∙ (handed_over limits c.args.plan shift.calls shift.cleaned shift.receipts.items shift.pass shift.rack taken listing finals c.in_ok-calls.ensures.shift rest
    ∙ (ap (completed_count finals) c.requires.queue.irps ∙ sym c.totals_of.ensures.completed))

pub returns-clause-closed : goal.returns-clause-closed
returns-clause-closed g c =
    let limits = g.N.QueueName.limits in
    let shift = c.in_ok-calls.field-0 in
    let taken = limits.passes - shift.rack in
    let closes = subst (λ (receipts : List PassRecord). HoldsNothing shift.pass → FirstAreBack taken (shift.pass ∷ receipts) → false ≡ true) c.as_mut_slice.ensures.value c.in-Err.ensures.closes in
    let handed = c.in_ok-calls.ensures.shift in
    absurd (true≢false (sym (closes handed.rests (all_back limits c.args.plan shift.calls shift.cleaned shift.receipts.items shift.pass shift.rack taken handed (omega arith)))))
