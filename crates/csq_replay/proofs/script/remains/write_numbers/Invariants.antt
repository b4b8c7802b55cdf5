use Rattle.std.proofs.Common.{◌≡◌, ◌++◌, take, string_bytes}
use Rattle.csq_replay.specs.ScriptAnswer.{numbers}
use Rattle.csq_replay.proofs.script.remains.write_numbers.Given as goal

-- the numbers so far were written
abbrev pub invariant-loop-irp : goal.invariant-loop-irp
invariant-loop-irp g l = string_bytes l.text ≡ string_bytes l.fn.text ++ numbers (take l.irp-index l.irps)
