use Rattle.csq_replay.proofs.Imports.{after_routine, runs_routine, cancel_claimed, cancel_unclaimed}
use Rattle.csq_replay.proofs.Calling.{claimed_owes, out_may_come}
use Rattle.csq_replay.proofs.Cleaning.{cancel_refused}
use Rattle.csq_replay.proofs.Handing.{handed_on}
use Rattle.csq_replay.proofs.script.driver.Driver.cancel.Goals as goal

pub returns-in_err-claimed : goal.returns-in_err-claimed
returns-in_err-claimed g c = λ l s k. let (t, mark, kept) = c.in_err-claimed.ensures l s k in rw (handed_on _ _ c.from_residual.ensures.1) (t, cancel_refused l s t c.args.name _ mark, kept)

pub returns-then-not-claimed : goal.returns-then-not-claimed
returns-then-not-claimed g c = λ l s k. let (t, mark, kept) = rw c.if-not-claimed.true at (c.in_ok-claimed.ensures l s k) in (t, cancel_unclaimed c.args.name t mark, kept)

pub run_routine-requires : goal.run_routine-requires
run_routine-requires g c =
    let (l, s, k) = c.requires in
    let (t, mark, kept) = rw c.if-not-claimed.false at (c.in_ok-claimed.ensures l s k) in
    let owed = claimed_owes l _ s k c.args.name t mark in
    (l, t, kept, owed.0, owed.1)

pub returns : goal.returns
returns g c = λ l s k.
    let (t, mark, kept) = rw c.if-not-claimed.false at (c.in_ok-claimed.ensures l s k) in
    let owed = claimed_owes l _ s k c.args.name t mark in
    let n = c.args.name.irp in
    (after_routine n t, cancel_claimed c.args.name t (after_routine n t) mark (runs_routine n owed.0 owed.1 (out_may_come l _ t kept _ owed.1)), c.run_routine.ensures l t kept)
