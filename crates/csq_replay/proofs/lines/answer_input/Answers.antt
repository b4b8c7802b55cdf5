use Rattle.std.proofs.Common.{refl, arith}
use Rattle.csq_replay.specs.Lines.IsAnswer.{too_long_input}
use Rattle.csq_replay.proofs.Answering.{each_answer}
use Rattle.csq_replay.proofs.lines.answer_input.Goals as goal

pub returns-then-input-gt-MAX_INPUT : goal.returns-then-input-gt-MAX_INPUT
returns-then-input-gt-MAX_INPUT g c = λ k s at. (_, c.in_ok-writeln.ensures.bytes, record { answer = too_long_input (omega arith); long = λ lt. refl })

pub returns : goal.returns
returns g c = λ k s at.
    each_answer (g.X.Answerer.answers k) (g.X.Answerer.stops k) (g.X.Answerer.closes k) s c.args.input.now _ _ c.answer_lines.result (omega arith) (c.answer_lines.ensures k s at)
