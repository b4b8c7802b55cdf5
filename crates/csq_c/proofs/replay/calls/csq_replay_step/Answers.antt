use Rattle.std.proofs.Common.{Ok, refl, sym, ◌∙◌}
use Rattle.csq_c.specs.declared.codes.Code.TheVariants.{BadSize, Done}
use Rattle.csq_c.proofs.Handling.{no_number, on_handle, on_number}
use Rattle.csq_c.proofs.replay.calls.csq_replay_step.Goals as goal

pub returns-in_default-named : goal.returns-in_default-named
returns-in_default-named c =
    on_handle _ _ c.in-Some.body.now c.in-Some.body.now _ BadSize _ _ c.in-Some.ensures.value refl c.number-in_default-named.ensures
    (no_number _ _ _ (sym c.named.ensures ∙ c.in_default-named.is) (refl, refl, refl))

pub returns-in-Ok : goal.returns-in-Ok
returns-in-Ok c =
    on_handle _ _ c.in-Some.body.now c.step.new.self _ Done _ _ c.in-Some.ensures.value refl c.number-in-Ok.ensures
    (on_number _ c.in-Some-named.named Done _ _ (sym c.named.ensures ∙ c.in-Some-named.is)
    (record { answer = Ok c.in-Ok.value; makes = c.in-Ok.ensures; code_is = refl; found_is = refl; refusal_is = λ W f. refl }))
