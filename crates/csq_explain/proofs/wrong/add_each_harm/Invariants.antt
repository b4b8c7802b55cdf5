use Rattle.std.proofs.Common.{take, string_bytes}
use Rattle.csq_replay.specs.Lines.{GrewBy}
use Rattle.csq_explain.specs.WrongOrders.{harms_text}
use Rattle.csq_explain.proofs.wrong.add_each_harm.Given as goal

-- the harms so far were added
abbrev pub invariant-loop-harm : goal.invariant-loop-harm
invariant-loop-harm g l = GrewBy (string_bytes l.fn.text) (string_bytes l.text) (harms_text (take l.harm-index l.harms))
