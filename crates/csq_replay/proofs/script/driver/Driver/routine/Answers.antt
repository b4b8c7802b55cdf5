use Rattle.std.proofs.Common.{refl, sym, ap, ◌∙◌, arith}
use Rattle.csq_replay.proofs.Imports.{owes, Routine, script_pass, after_routine, runs_routine}
use Rattle.csq_replay.proofs.Going.{present_is}
use Rattle.csq_replay.proofs.Calling.{unknown_keeps, no_claim_keeps, out_may_come, irps_are}
use Rattle.csq_replay.proofs.script.driver.Driver.routine.Goals as goal

pub returns-then-not-is_known : goal.returns-then-not-is_known
returns-then-not-is_known g c = λ l s k. unknown_keeps l _ s k (Routine c.args.irp) c.args.irp refl (λ known. let t = c.is_known.ensures.1 known in cc)

pub returns-then-not-owes : goal.returns-then-not-owes
returns-then-not-owes g c = λ l s k.
    let known = c.is_known.ensures.0 c.if-not-is_known.false in
    let owed = c.owes.ensures s.run k.agrees ∙ ap (owes s.run script_pass) (present_is l _ s k c.args.irp) in
    no_claim_keeps l _ s k c.args.irp known (sym owed ∙ c.if-not-owes.true)

pub run_routine-requires : goal.run_routine-requires
run_routine-requires g c =
    let (l, s, k) = c.requires in
    let known = c.is_known.ensures.0 c.if-not-is_known.false in
    let owed = c.owes.ensures s.run k.agrees ∙ ap (owes s.run script_pass) (present_is l _ s k c.args.irp) in
    (l, s, k, omega (arith, known, irps_are l _ s k), sym owed ∙ c.if-not-owes.false)

pub returns : goal.returns
returns g c = λ l s k.
    let n = c.args.irp in
    let known = c.is_known.ensures.0 c.if-not-is_known.false in
    let owed = sym (c.owes.ensures s.run k.agrees ∙ ap (owes s.run script_pass) (present_is l _ s k n)) ∙ c.if-not-owes.false in
    (after_routine n s, runs_routine n (omega (arith, known, irps_are l _ s k)) owed (out_may_come l _ s k _ owed), c.run_routine.ensures l s k)
