-- Who has the lock at a step.
use Rattle.std.specs.Prelude.{◌&&◌, Bool, not}
use Rattle.irp_core.specs.Inside.{has_lock, inside_after}
use Rattle.irp_core.specs.Lock.{needs_lock}
use Rattle.csq_explain.specs.declared.sentences.StepInCall.{StepInCall}

-- whether a step is the first of its pass's time with the lock: it needs the lock, which the pass hasn't got before it
abbrev pub takes_lock : StepInCall → Bool
takes_lock s = needs_lock s.made.kind && not (has_lock s.inside)

-- whether a step is the last of its pass's time with the lock: it needs the lock, which the pass hasn't got after it
abbrev pub lets_go : StepInCall → Bool
lets_go s = needs_lock s.made.kind && not (has_lock (inside_after s.inside s.made.kind s.made.found))
