use Rattle.std.proofs.Common.{true, false, refl}
use Rattle.csq_c.specs.declared.codes.Code.TheVariants.{Done, Holding}
use Rattle.csq_c.proofs.Handling.{looks_at}
use Rattle.csq_c.proofs.replay.calls.csq_replay_rest.Goals as goal

pub returns-then-at_rest : goal.returns-then-at_rest
returns-then-at_rest c =
    looks_at _ _ c.in-Some.body.now _ Done _ _ c.in-Some.ensures.value refl c.number-then-at_rest.ensures (record { rest = true; is_rest = c.if-at_rest.ensures; code_is = refl })

pub returns-else-at_rest : goal.returns-else-at_rest
returns-else-at_rest c =
    looks_at _ _ c.in-Some.body.now _ Holding _ _ c.in-Some.ensures.value refl c.number-else-at_rest.ensures (record { rest = false; is_rest = c.if-at_rest.ensures; code_is = refl })
