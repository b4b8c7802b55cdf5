use Rattle.irp_core.proofs.Growing.{next_is, is_next, inside_is, run_parted, HasLock-has_lock, has_lock-HasLock}
use Rattle.irp_core.proofs.laws.programs_show_what_a_pass_is_inside_of.Goals as goal

pub returns : goal.returns
returns c = λ size E r. record {
  begun = λ p b h. (inside_is p E b h).1;
  lock = λ p. (HasLock-has_lock E p, has_lock-HasLock E p (run_parted size E r p));
  next = λ p k. (is_next size E r p k, λ h. next_is size E r p k h.0 h.1);
}
