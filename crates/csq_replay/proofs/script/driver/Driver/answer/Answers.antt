use Rattle.csq_replay.proofs.Removals.{does_kept}
use Rattle.csq_replay.proofs.script.driver.Driver.answer.Goals as goal

pub returns-in-Ok : goal.returns-in-Ok
returns-in-Ok g c = λ l s h. let (t, does, kept) = c.in-Ok.ensures l s h in (t, does, (kept, does_kept l s t _ _ does h.0.outside h.1))

pub returns-in-Err : goal.returns-in-Err
returns-in-Err g c = λ l s h. let (t, does, kept) = c.in-Err.ensures l s h in (t, does, (kept, does_kept l s t _ _ does h.0.outside h.1))
