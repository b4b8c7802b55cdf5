-- A call of an open queue is a call of what its handle holds.
use Rattle.std.proofs.Common.{◌≡◌, Some, None, refl, subst}
use Rattle.csq_checked.specs.Passes.{CheckedState, CheckedPassState}
use Rattle.csq_c.specs.Bodies.{QueueBodyState}
use Rattle.csq_c.specs.declared.codes.Code.{Code}
use Rattle.csq_c.specs.Exports.{OnQueue}

pub on_open : (body : QueueBodyState) (q q' : CheckedState) (p p' : CheckedPassState) (code : Code) (kept : Type 0) (stored : CheckedState → CheckedState → Type 0) → body.queue ≡ Some q → stored q q' → OnQueue body (record body { queue = Some q' }) p p' code kept stored
on_open body q q' p p' code kept stored is call = record {
  closed = λ none. absurd (no_queue none);
  called = λ other here. (q', refl, subst (λ (z : CheckedState). stored z q') (same other here) call);
}
  where
    no_queue : body.queue ≡ None → ⊥
    no_queue none = cc

    same : (other : CheckedState) → body.queue ≡ Some other → q ≡ other
    same other here = cc
