use Rattle.csq_replay.proofs.script.driver.Driver.owes.Goals as goal

pub returns : goal.returns
returns g c = c.owes.ensures
