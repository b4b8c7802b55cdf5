use Rattle.std.proofs.Common.{◌∙◌}
use Rattle.csq_replay.specs.declared.script.remains.Kept.TheVariants.{Held, Owed}
use Rattle.csq_replay.proofs.LastLines.{listed_are, kept_are}
use Rattle.csq_replay.proofs.script.driver.Driver.remains.Goals as goal

pub returns : goal.returns
returns g c = λ l s (k, removals). record {
  listed_are = c.in_ok-listed_irps.ensures ∙ listed_are l _ s k;
  held_are = kept_are l _ s k Held _ (c.in_ok-kept_irps.ensures s.run k.agrees);
  owed_are = kept_are l _ s k Owed _ (c.in_ok-kept_irps-2.ensures s.run k.agrees);
}
