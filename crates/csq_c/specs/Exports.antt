-- How a call through handles stands for a call of what they hold.
use Rattle.std.specs.Prelude.{◌≡◌, ◌⊎◌, ℕ, Some, None, IfSome}
use Rattle.csq_checked.specs.Passes.{CheckedState, CheckedPassState}
use Rattle.csq_c.specs.Bodies.{QueueBodyState, IsPassFor}
use Rattle.csq_c.specs.declared.codes.Code.{Code, TheVariants.{EmptyHandle, Closed, OtherQueue}}
use Rattle.csq_c.specs.declared.handles.{CsqQueue.{CsqQueue}, CsqPass.{CsqPass}}
use Rattle.csq_c.specs.Codes.{number_of}

-- a call of an open queue by a pass is as defined. Of a closed one the code says so, and nothing is changed
pub record OnQueue (body body' : QueueBodyState) (p p' : CheckedPassState) (code : Code) (kept : Type 0) (stored : CheckedState → CheckedState → Type 0) : Type 0 where
  pub closed : body.queue ≡ None → (code ≡ Closed) × (body' ≡ body) × (p' ≡ p) × kept
  pub called : (q : CheckedState) → body.queue ≡ Some q → (q' : CheckedState) × (body' ≡ record body { queue = Some q' }) × stored q q'

-- if a pass's number is that of the queue, the queue made the pass
abbrev pub ArePaired : CsqQueue → CsqPass → Type 0
ArePaired queue pass = IfSome queue.boxed.body (λ body. IfSome pass.boxed.body (λ p. pass.queue ≡ queue.number → IsPassFor body p))

-- the handle of a queue is as it was: what stands behind it, and the number
abbrev pub IsQueueKept : CsqQueue → CsqQueue → Type 0
IsQueueKept queue queue' = (queue'.boxed.body ≡ queue.boxed.body) × (queue'.number ≡ queue.number)

-- so is that of a pass
abbrev pub IsPassKept : CsqPass → CsqPass → Type 0
IsPassKept pass pass' = (pass'.boxed.body ≡ pass.boxed.body) × (pass'.queue ≡ pass.queue)

-- and both
abbrev pub AreHandlesKept : CsqQueue → CsqQueue → CsqPass → CsqPass → Type 0
AreHandlesKept queue queue' pass pass' = IsQueueKept queue queue' × IsPassKept pass pass'

-- a call through the handles of a queue and a pass is as defined for what they hold. If one is empty, or the numbers differ, the code says so, and nothing is changed
pub record OnHandles (queue queue' : CsqQueue) (pass pass' : CsqPass) (result : ℕ) (kept : Type 0) (stored : QueueBodyState → QueueBodyState → CheckedPassState → CheckedPassState → Code → Type 0) : Type 0 where
  pub numbers : (queue'.number ≡ queue.number) × (pass'.queue ≡ pass.queue)
  pub empty : (queue.boxed.body ≡ None) ⊎ (pass.boxed.body ≡ None) → (result ≡ number_of EmptyHandle) × AreHandlesKept queue queue' pass pass' × kept
  pub other : (body : QueueBodyState) (p : CheckedPassState) → queue.boxed.body ≡ Some body → pass.boxed.body ≡ Some p → ¬ (pass.queue ≡ queue.number)
      → (result ≡ number_of OtherQueue) × AreHandlesKept queue queue' pass pass' × kept
  pub called : (body : QueueBodyState) (p : CheckedPassState) → queue.boxed.body ≡ Some body → pass.boxed.body ≡ Some p → pass.queue ≡ queue.number
      → (body' : QueueBodyState) × (p' : CheckedPassState) × (code : Code) × (queue'.boxed.body ≡ Some body') × (pass'.boxed.body ≡ Some p') × (result ≡ number_of code) × stored body body' p p' code

-- a call through the handle of a pass is as defined for the pass. If it is empty the code says so, and nothing is changed
pub record OnPass (pass pass' : CsqPass) (result : ℕ) (kept : Type 0) (stored : CheckedPassState → CheckedPassState → Code → Type 0) : Type 0 where
  pub number : pass'.queue ≡ pass.queue
  pub empty : pass.boxed.body ≡ None → (result ≡ number_of EmptyHandle) × (pass'.boxed.body ≡ None) × kept
  pub called : (p : CheckedPassState) → pass.boxed.body ≡ Some p → (p' : CheckedPassState) × (code : Code) × (pass'.boxed.body ≡ Some p') × (result ≡ number_of code) × stored p p' code
