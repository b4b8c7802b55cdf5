use Rattle.std.proofs.Common.{◌-◌}
use Rattle.csq_queue.proofs.Cleaning.{IsCleaning}
use Rattle.csq_queue.proofs.named.csq.Csq.cleanup.Given as goal

-- the file is closed, and what was removed is completed
abbrev pub invariant-cleanup : goal.invariant-cleanup
invariant-cleanup g l = IsCleaning g.N.QueueName.limits l.file l.fn.pass l.pass l.completed

-- each round completes an IRP more
abbrev pub decreases-cleanup : goal.decreases-cleanup
decreases-cleanup g l = g.N.QueueName.limits.irps - l.completed
