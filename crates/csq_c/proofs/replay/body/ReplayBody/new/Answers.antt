use Rattle.std.proofs.Common.{[], ◌+◌, replicate, ap, sym, ◌∙◌}
use Rattle.irp_core.specs.Runs.{Size}
use Rattle.csq_c.specs.Replays.{no_call}
use Rattle.csq_c.proofs.Replaying.{follows_none}
use Rattle.csq_c.proofs.replay.body.ReplayBody.new.Goals as goal

pub invariant_of-result : goal.invariant_of-result
invariant_of-result c =
    ([], follows_none _ _ c.in_ok-machine.ensures.agrees (c.in_ok-calls.ensures ∙ ap (λ (n : Size). replicate (n.passes + 1) no_call) (sym c.in_ok-machine.ensures.size)))
