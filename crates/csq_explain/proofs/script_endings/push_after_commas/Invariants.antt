use Rattle.std.proofs.Common.{◌≡◌, ◌++◌, take, string_bytes}
use Rattle.csq_explain.specs.ScriptEndings.{after_commas}
use Rattle.csq_explain.proofs.script_endings.push_after_commas.Given as goal

-- the numbers so far were added
abbrev pub invariant-loop-irp : goal.invariant-loop-irp
invariant-loop-irp g l = string_bytes l.text ≡ string_bytes l.fn.text ++ after_commas (take l.irp-index l.irps)
