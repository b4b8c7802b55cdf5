-- How many calls the threads of a plan make.
use Rattle.std.specs.Prelude.{◌≡◌, ℕ, suc, ◌+◌, ◌*◌, ◌<◌, ◌≤◌, ◌^◌, min, nat_lt, List, [], ◌∷◌, map}
use Rattle.csq_queue.specs.Counts.{tally}
use Rattle.csq_device.specs.declared.plan.Plan.{Plan}
use Rattle.csq_device.specs.declared.roles.{Role.{Role, TheVariants.{Submitter, Worker, Canceller, BusyWorker}}, Duty.{Duty}}
use Rattle.csq_device.specs.declared.calls.CallCounts.{CallCounts}
use Rattle.csq_device.specs.declared.kinds.CallsByKind.{CallsByKind}

-- these calls are those and others
pub record AddsUp (calls others sum : CallCounts) : Type 0 where
  pub made : sum.made ≡ calls.made + others.made
  pub completed : sum.completed ≡ calls.completed + others.completed

-- how many IRPs the calls of all kinds completed
abbrev pub completed_by : CallsByKind → ℕ
completed_by calls = calls.inserts.completed + calls.removals.completed + calls.cancels.completed + calls.put_backs.completed

-- in how many of its turns a thread has an IRP, whose IRPs are first, first + step, and so on
abbrev pub turns_with_irp : Plan → ℕ → ℕ → ℕ
turns_with_irp plan first step = tally (λ turn. nat_lt (first + turn * step) plan.irps) plan.turns

-- how many inserts a thread of this role makes
abbrev pub inserts_by : Plan → Role → ℕ
inserts_by plan (Submitter first) = turns_with_irp plan first plan.submitters
inserts_by plan Worker = 0
inserts_by plan (Canceller first) = 0
inserts_by plan BusyWorker = 0

-- how many removals it makes to complete what it gets
abbrev pub removals_by : Plan → Role → ℕ
removals_by plan (Submitter first) = 0
removals_by plan Worker = plan.turns
removals_by plan (Canceller first) = 0
removals_by plan BusyWorker = 0

-- how many cancels it makes
abbrev pub cancels_by : Plan → Role → ℕ
cancels_by plan (Submitter first) = 0
cancels_by plan Worker = 0
cancels_by plan (Canceller first) = turns_with_irp plan first plan.cancellers
cancels_by plan BusyWorker = 0

-- how many put-backs it makes at most
abbrev pub put_backs_by : Plan → Role → ℕ
put_backs_by plan (Submitter first) = 0
put_backs_by plan Worker = 0
put_backs_by plan (Canceller first) = 0
put_backs_by plan BusyWorker = plan.turns

-- these are the calls of a thread of this role
pub record AreCallsBy (plan : Plan) (role : Role) (calls : CallsByKind) : Type 0 where
  pub inserts : calls.inserts.made ≡ inserts_by plan role
  pub removals : calls.removals.made ≡ removals_by plan role
  pub cancels : calls.cancels.made ≡ cancels_by plan role
  pub put_backs : calls.put_backs.made ≤ put_backs_by plan role
  pub raced : calls.raced ≤ calls.inserts.completed

-- how many calls of a kind threads with these duties make
abbrev pub total_by : (Plan → Role → ℕ) → List Duty → ℕ
total_by kind [] = 0
total_by kind (d ∷ duties) = kind d.plan d.role + total_by kind duties

-- they make few enough calls of each kind to be counted
pub record AreFew (duties : List Duty) : Type 0 where
  pub inserts : total_by inserts_by duties < 2 ^ 32
  pub removals : total_by removals_by duties < 2 ^ 32
  pub cancels : total_by cancels_by duties < 2 ^ 32
  pub put_backs : total_by put_backs_by duties < 2 ^ 32

-- what threads with these duties did
pub record AreCallsOfAll (duties : List Duty) (calls : CallsByKind) : Type 0 where
  pub inserts : calls.inserts.made ≡ total_by inserts_by duties
  pub removals : calls.removals.made ≡ total_by removals_by duties
  pub cancels : calls.cancels.made ≡ total_by cancels_by duties
  pub put_backs : calls.put_backs.made ≤ total_by put_backs_by duties
  pub raced : calls.raced ≤ calls.inserts.completed

-- the duties that these have, each its own
abbrev pub duties_of : {A : Type 0} → List A → (A → Duty) → List Duty
duties_of xs duty = map duty xs

-- the duties of threads with these roles, whose passes have the numbers from this one on
abbrev pub duties_from : Plan → ℕ → List Role → List Duty
duties_from plan from [] = []
duties_from plan from (role ∷ roles) = record { number = from; plan = plan; role = role } ∷ duties_from plan (suc from) roles

-- the passes are numbered from this number on
abbrev pub AreNumbered : ℕ → List Duty → Type 0
AreNumbered from [] = Unit {0}
AreNumbered from (d ∷ duties) = (d.number ≡ from) × AreNumbered (suc from) duties

-- the calls of a plan's threads: an insert and a cancel of each IRP whose turn comes, a removal each turn of a worker, and at most a put-back each turn of a busy worker
pub record AreCallsOf (plan : Plan) (calls : CallsByKind) : Type 0 where
  pub inserts : calls.inserts.made ≡ min plan.irps (plan.submitters * plan.turns)
  pub removals : calls.removals.made ≡ plan.workers * plan.turns
  pub cancels : calls.cancels.made ≡ min plan.irps (plan.cancellers * plan.turns)
  pub put_backs : calls.put_backs.made ≤ plan.busy_workers * plan.turns
  pub raced : calls.raced ≤ calls.inserts.completed
