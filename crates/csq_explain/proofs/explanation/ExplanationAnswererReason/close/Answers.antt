use Rattle.std.proofs.Common.{List, ◌++◌, ◌∙◌, [], ap, cond, string_bytes}
use Rattle.csq_explain.proofs.Imports.{IrpLine, grew_more}
use Rattle.csq_explain.specs.Explanations.{irps_text, rest_line, noted_claims}
use Rattle.csq_explain.proofs.Closings.{closing_is}
use Rattle.csq_explain.proofs.explanation.ExplanationAnswererReason.close.Goals as goal

pub returns : goal.returns
returns g c = λ k W a.
    let reported = c.in_ok-closing.closing.reported.items in
    let rest = c.in_ok-closing.closing.rest in
    let old = string_bytes c.args.text.now in
    let first = string_bytes c.close_irps.new.text in
    let second = string_bytes c.close_rest.new.text in
    let irps = c.in_ok-close_irps.ensures ∙ ap (λ (lines : List IrpLine). old ++ irps_text c.args.self.now.explains lines) c.deref.ensures.value ∙ ap (λ b. old ++ irps_text b reported) a.explains in
    let at_rest = c.in_ok-close_rest.ensures ∙ ap (λ b. first ++ rest_line b rest) a.explains in
    let claims = c.in_ok-push_claims.ensures ∙ ap (λ b. second ++ cond b (string_bytes c.args.self.now.claims) []) a.asks ∙ ap (λ t. second ++ cond k.1 t []) a.claims in (
      irps_text k.2 reported ++ (rest_line k.2 rest ++ cond k.1 (noted_claims k.2 W) []),
      grew_more _ _ _ (irps_text k.2 reported) (rest_line k.2 rest ++ cond k.1 (noted_claims k.2 W) []) irps (grew_more _ _ _ (rest_line k.2 rest) (cond k.1 (noted_claims k.2 W) []) at_rest claims),
      closing_is k.2 k.0 k.1 W reported rest (c.in_ok-closing.ensures.closes k.0 W a.follows),
    )
