use Rattle.std.proofs.Common.{◌≤◌}
use Rattle.csq_device.proofs.Imports.{CANCELLED, HasCompleted, PutsEachBack}
use Rattle.csq_device.proofs.loops.put_back.Given as goal

-- what was completed so far, at most one put-back a turn, and what each turn did
abbrev pub invariant-loop-turn : goal.invariant-loop-turn
invariant-loop-turn g l =
    record {
      few : l.calls.made ≤ l.turn;
      done : HasCompleted CANCELLED l.calls.completed l.fn.pass l.pass;
      turns : PutsEachBack l.turn l.calls.made l.fn.pass l.pass;
    }
