use Rattle.std.proofs.Common.{◌++◌, ◌∙◌, ap, refl, string_bytes}
use Rattle.csq_explain.specs.WrongOrders.{end_text}
use Rattle.csq_explain.proofs.wrong.WrongOrderAnswererReason.close.Goals as goal

pub returns : goal.returns
returns g c = λ size d a.
    let old = string_bytes c.args.text.now in
    (end_text size.irps d.broken d.steps, c.in_ok-add_end.ensures size.irps d.steps a.all ∙ ap (λ b. old ++ end_text size.irps b d.steps) a.since, refl)
