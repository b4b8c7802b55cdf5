use Rattle.std.proofs.Common.{None, Some, refl}
use Rattle.csq_c.specs.declared.codes.Code.TheVariants.{Done, UnknownIrp}
use Rattle.csq_c.proofs.Handling.{looks_at}
use Rattle.csq_c.proofs.replay.calls.csq_replay_irp.Goals as goal

pub returns-in_default-placed : goal.returns-in_default-placed
returns-in_default-placed c =
    looks_at _ _ c.in-Some.body.now _ UnknownIrp _ _ c.in-Some.ensures.value refl c.number-in_default-placed.ensures
    (record { answer = None; known = c.in_default-placed.ensures.known; placed = c.in_default-placed.ensures.placed; code_is = refl; new_is = refl })

pub returns : goal.returns
returns c =
    looks_at _ _ c.in-Some.body.now _ Done _ _ c.in-Some.ensures.value refl c.number-2.ensures
    (record { answer = Some c.in-Some-placed.there; known = c.in-Some-placed.ensures.known; placed = c.in-Some-placed.ensures.placed; code_is = refl; new_is = refl })
