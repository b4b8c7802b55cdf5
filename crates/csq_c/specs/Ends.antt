-- Passes that are handed out and come back, and queues that are closed and freed.
use Rattle.std.specs.Prelude.{◌≡◌, ◌⊎◌, ℕ, ◌-◌, ◌==◌, ◌&&◌, Bool, Option, Some, None, if◌then◌else◌}
use Rattle.std.specs.Option.{is_some}
use Rattle.csq_list.specs.Listing.{Listing}
use Rattle.csq_words.specs.declared.views.PassRecord.{PassRecord}
use Rattle.csq_queue.specs.Counts.{held_count, owed_count}
use Rattle.csq_queue.specs.Rests.{IsClosed}
use Rattle.csq_checked.specs.Idle.{with_idle_back}
use Rattle.csq_checked.specs.Passes.{CheckedState, CheckedPassState, IsPassIn, HandsOutNew, HandsOutAgain, HasComeBack, out_of}
use Rattle.csq_c.specs.Bodies.{QueueBodyState, RestState}
use Rattle.csq_c.specs.declared.codes.Code.{Code, TheVariants.{Done, Holding, PassesOut, EmptyHandle, NotEmpty, Closed}}

-- how many are out, of a queue that is open
abbrev pub out_of_open : Option CheckedState → Option ℕ
out_of_open None = None
out_of_open (Some q) = Some (out_of q)

-- how many are out, of a queue that is open or closed
abbrev pub out_left : Option CheckedState → ℕ
out_left None = 0
out_left (Some q) = out_of q

-- the code of a call of an open queue that is never refused else
abbrev pub open_code : Option QueueBodyState → Code
open_code None = EmptyHandle
open_code (Some body) = if is_some body.queue then Done else Closed

-- what freeing a queue answers: of an empty handle as C's free of NULL
abbrev pub free_code : Option QueueBodyState → Code
free_code None = Done
free_code (Some body) = if out_left body.queue == 0 then Done else PassesOut

-- whether a pass holds and owes no IRP
abbrev pub is_idle : CheckedPassState → Bool
is_idle p = (held_count p.pass.steps == 0) && (owed_count p.pass.steps == 0)

-- what letting a pass go answers
abbrev pub abandon_code : Option CheckedPassState → Code
abandon_code None = EmptyHandle
abandon_code (Some p) = if is_idle p then Done else Holding

-- what giving a pass back answers
abbrev pub give_back_code : QueueBodyState → CheckedPassState → Code
give_back_code body p = if is_some body.queue then (if is_idle p then Done else Holding) else Closed

-- this pass came back to the open queue
pub record IsTakenBack (body body' : QueueBodyState) (p : PassRecord) : Type 0 where
  pub before : CheckedState
  pub after : CheckedState
  pub was : body.queue ≡ Some before
  pub queue_is : body' ≡ record body { queue = Some after }
  pub back : HasComeBack p before after

-- what is left of a queue with this record that was closed, once its idle passes gave themselves back
pub record IsLeftOf (q : CheckedState) (rest : RestState) : Type 0 where
  pub listing : Listing
  pub entries_are : rest.entries ≡ listing.entries
  pub closed : IsClosed q.queue.limits (q.queue.limits.passes - q.left) (with_idle_back q.idle (q.queue.limits.passes - q.left) q.queue.queue) listing rest.finals
  pub back : out_of q ≡ 0

-- the open queue hands this pass out: the first that is idle, else the next new one
pub record IsHandedOut (body body' : QueueBodyState) (p : CheckedPassState) : Type 0 where
  pub before : CheckedState
  pub after : CheckedState
  pub was : body.queue ≡ Some before
  pub queue_is : body' ≡ record body { queue = Some after }
  pub made_by : IsPassIn before.queue p
  pub handed : HandsOutNew before after p.pass ⊎ HandsOutAgain before after p.pass

-- why no pass is asked for
abbrev pub take_cause : Option QueueBodyState → Option CheckedPassState → Option Code
take_cause None pass = Some EmptyHandle
take_cause (Some body) (Some p) = Some NotEmpty
take_cause (Some body) None = if is_some body.queue then None else Some Closed
