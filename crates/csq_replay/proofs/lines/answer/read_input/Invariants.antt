use Rattle.std.proofs.Common.{◌+◌, ◌-◌, ◌≤◌, vec_len}
use Rattle.std.specs.Io.KnownBytes.{Consumes}
use Rattle.csq_replay.specs.Inputs.{input_limit}
use Rattle.csq_replay.proofs.lines.answer.read_input.Given as goal

-- what was taken so far is what the input holds
abbrev pub invariant-reading : goal.invariant-reading
invariant-reading g l = Consumes (g.R.Read.remaining l.fn.reader) (g.R.Read.remaining l.reader) l.input.items × (vec_len l.input ≤ input_limit + 1)

abbrev pub decreases-reading : goal.decreases-reading
decreases-reading g l = input_limit + 1 - vec_len l.input
