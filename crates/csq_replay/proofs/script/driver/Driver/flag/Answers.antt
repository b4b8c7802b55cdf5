use Rattle.std.proofs.Common.{refl}
use Rattle.csq_replay.specs.declared.script.call.ScriptCall.TheVariants.{Flag}
use Rattle.csq_replay.proofs.Calling.{flag_keeps, unknown_keeps}
use Rattle.csq_replay.proofs.script.driver.Driver.flag.Goals as goal

pub returns-then-is_known : goal.returns-then-is_known
returns-then-is_known g c = λ l s k. flag_keeps l _ s k c.args.irp (c.is_known.ensures.0 c.if-is_known.true) _ (c.cancelled.ensures s.run k.agrees)

pub returns-else-is_known : goal.returns-else-is_known
returns-else-is_known g c = λ l s k. unknown_keeps l _ s k (Flag c.args.irp) c.args.irp refl (λ known. let t = c.is_known.ensures.1 known in cc)
