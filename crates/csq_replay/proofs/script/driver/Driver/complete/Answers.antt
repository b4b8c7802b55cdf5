use Rattle.std.proofs.Common.{refl, sym, ap, ◌∙◌, arith}
use Rattle.csq_replay.proofs.Imports.{holds, Complete, script_pass, present_of, completing, completes}
use Rattle.csq_replay.proofs.Going.{present_is}
use Rattle.csq_replay.proofs.Calling.{unknown_keeps, not_held_keeps, pending_keeps, irps_are}
use Rattle.csq_replay.proofs.script.driver.Driver.complete.Goals as goal

pub returns-then-not-is_known : goal.returns-then-not-is_known
returns-then-not-is_known g c = λ l s k. unknown_keeps l _ s k (Complete c.args.irp c.args.status) c.args.irp refl (λ known. let t = c.is_known.ensures.1 known in cc)

pub returns-then-not-holds : goal.returns-then-not-holds
returns-then-not-holds g c = λ l s k.
    let known = c.is_known.ensures.0 c.if-not-is_known.false in
    let held = c.holds.ensures s.run k.agrees ∙ ap (holds s.run script_pass) (present_is l _ s k c.args.irp) in
    not_held_keeps l _ s k (Complete c.args.irp c.args.status) c.args.irp refl known (sym held ∙ c.if-not-holds.true)

pub returns-in_default : goal.returns-in_default
returns-in_default g c = λ l s k.
    let known = c.is_known.ensures.0 c.if-not-is_known.false in
    let held = c.holds.ensures s.run k.agrees ∙ ap (holds s.run script_pass) (present_is l _ s k c.args.irp) in
    pending_keeps l _ s k c.args.irp known c.args.status (sym held ∙ c.if-not-holds.false) (c.in_default.ensures.pending.0 refl)

pub finish-requires : goal.finish-requires
finish-requires g c =
    let (l, s, k) = c.requires in
    let known = c.is_known.ensures.0 c.if-not-is_known.false in
    let held = c.holds.ensures s.run k.agrees ∙ ap (holds s.run script_pass) (present_is l _ s k c.args.irp) in
    (l, s, k, omega (arith, known, irps_are l _ s k), sym held ∙ c.if-not-holds.false)

pub returns : goal.returns
returns g c = λ l s k.
    let n = c.args.irp in
    let known = c.is_known.ensures.0 c.if-not-is_known.false in
    let held = c.holds.ensures s.run k.agrees ∙ ap (holds s.run script_pass) (present_is l _ s k n) in (
      completing (present_of s n) c.args.status s,
      completes n c.args.status (omega (arith, known, irps_are l _ s k)) (sym held ∙ c.if-not-holds.false) (λ p. let t = c.in-Some.ensures.pending.1 p in cc),
      rw c.in-Some.ensures.value at (c.finish.ensures l s k),
    )
