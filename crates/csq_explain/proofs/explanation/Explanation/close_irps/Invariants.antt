use Rattle.std.proofs.Common.{take, string_bytes}
use Rattle.csq_replay.specs.Lines.{GrewBy}
use Rattle.csq_explain.specs.Explanations.{irps_text}
use Rattle.csq_explain.proofs.explanation.Explanation.close_irps.Given as goal

-- those so far were written
abbrev pub invariant-loop-line : goal.invariant-loop-line
invariant-loop-line g l = GrewBy (string_bytes l.fn.text) (string_bytes l.text) (irps_text l.self.explains (take l.line-index l.reported))
