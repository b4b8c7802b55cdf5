use Rattle.std.proofs.Common.{None, refl, ◌∙◌, arith}
use Rattle.csq_replay.proofs.Imports.{get_or_default, Status}
use Rattle.csq_replay.proofs.Calling.{irps_are, status_keeps, unknown_keeps}
use Rattle.csq_replay.proofs.script.driver.Driver.status.Goals as goal

pub returns-then-is_known : goal.returns-then-is_known
returns-then-is_known g c = λ l s k.
    let known = c.is_known.ensures.0 c.if-is_known.true in
    status_keeps l _ s k c.args.irp known _ (c.index.ensures ∙ get_or_default c.args.self.now.statuses.items c.args.irp.0 _ None (omega (arith, known, irps_are l _ s k, k.statuses_size)))

pub returns-else-is_known : goal.returns-else-is_known
returns-else-is_known g c = λ l s k. unknown_keeps l _ s k (Status c.args.irp) c.args.irp refl (λ known. let t = c.is_known.ensures.1 known in cc)
