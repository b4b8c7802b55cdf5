use Rattle.std.proofs.Common.{ap, ◌++◌, ◌∙◌, sym, subst, List, ℕ}
use Rattle.csq_replay.specs.Lines.{IsAnswerUntil}
use Rattle.csq_diagnose.specs.Reports.{IsEndDiagnosis}
use Rattle.csq_diagnose.proofs.diagnosed.report_input.Goals as goal

pub returns : goal.returns
returns g c = λ k s at.
    let (text, grown, answer) = c.in_ok-ending.ensures k s at in
    let (said, told, diagnosis) = c.in_ok-add_diagnosis.ensures in
    let Text : List ℕ → Type 0 = λ t. IsAnswerUntil (g.X.Answerer.answers k) (g.X.Answerer.stops k) (g.X.Answerer.closes k) s c.args.input.now t c.in_ok-ending.ending in
    let Said : List ℕ → Type 0 = λ t. IsEndDiagnosis g.W.Diagnose.reports c.in_ok-ending.ending t in
    record {
      end = c.in_ok-ending.ending;
      answer = subst Text (sym (grown ∙ ap (λ t. t ++ text) c.new-text.ensures.bytes)) answer;
      diagnosis = subst Said (sym (told ∙ ap (λ t. t ++ said) c.new-diagnosis.ensures.bytes)) diagnosis;
      ended = c.ended-ended.ensures;
    }
