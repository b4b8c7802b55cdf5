use Rattle.std.proofs.Common.{refl}
use Rattle.csq_replay.specs.declared.script.call.ScriptCall.TheVariants.{Close}
use Rattle.csq_replay.proofs.Calling.{close_keeps, unknown_file_keeps}
use Rattle.csq_replay.proofs.script.driver.Driver.close.Goals as goal

pub returns-in-Ok : goal.returns-in-Ok
returns-in-Ok g c = λ l s k. close_keeps l _ s k c.args.file (c.in-Ok.ensures.known.0 refl) _ c.in-Ok.ensures.ok

pub returns-in-Err : goal.returns-in-Err
returns-in-Err g c = λ l s k. unknown_file_keeps l _ s k (Close c.args.file) c.args.file refl (λ h. let f = c.in-Err.ensures.known.1 h in cc) _ c.in-Err.ensures.err
