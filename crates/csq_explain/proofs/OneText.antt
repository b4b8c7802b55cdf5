-- A schedule has one explanation.
use Rattle.std.proofs.Common.{◌≡◌, ℕ, Bool, cond, List, [], ◌++◌, ap, sym, ◌∙◌}
use Rattle.csq_explain.proofs.Imports.{Size, IsRun, IrpLine, Numbered, run_of, explained_text, explained_irps, explained_rest, explained_claims, ExplainsLine, IsExplainedClosing}
use Rattle.irp_core.proofs.Growing.{run_none}
use Rattle.csq_replay.proofs.Answering.{one_input_answer}
use Rattle.csq_replay.proofs.OneAnswer.{one_close, one_line, run_on}
use Rattle.csq_explain.specs.Laws.{HasOneExplanation}

one_closing : (size : Size) (claims : Bool) (W : List Numbered) → IsRun size (run_of W) → (t u : List ℕ) → IsExplainedClosing size claims W t → IsExplainedClosing size claims W u → t ≡ u
one_closing size claims W r t u (reported, rest, closes, e) (other, otherwise, closes', f) =
    let same = one_close size (run_of W) r reported other rest otherwise closes closes' in
    let text : List IrpLine → Bool → List ℕ = λ lines b. explained_irps lines ++ (explained_rest b ++ cond claims (explained_claims W) []) in
    e ∙ ap (λ x. text x rest) same.0 ∙ ap (λ x. text other x) same.1 ∙ sym f

pub one_explanation : (size : Size) (claims : Bool) (input : List ℕ) → HasOneExplanation size claims input
one_explanation size claims input t u e f is other =
    one_input_answer (ExplainsLine size) (IsExplainedClosing size claims) (λ W. IsRun size (run_of W)) (one_line (explained_text size) size) (run_on (explained_text size) size)
    (λ W x y r closed closed'. one_closing size claims W r x y closed closed') [] (run_none size) input t u e f is other
