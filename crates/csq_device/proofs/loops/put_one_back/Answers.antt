use Rattle.std.proofs.Common.{◌≡◌, [], ◌∷◌, Some, None, inl, inr, sym, subst, true, rules}
use Rattle.csq_device.proofs.Imports.{CANCELLED, Done, Any, Front, end_of, saw, with_step, with_completion, PutBack, RemoveNext, remove_next_gives, GivesOut, MakesCalls, HasCompleted}
use Rattle.csq_words.specs.declared.views.InsertReply.TheVariants.{Refused}
use Rattle.csq_queue.specs.Calls.{file_at}
use Rattle.csq_device.proofs.Working.{given_none}
use Rattle.csq_device.proofs.Calling.{calls_more, completed_calls, removed_calls}
use Rattle.csq_device.proofs.PuttingBack.{back_calls, refused_back_calls, pending_completes, cancelled_completes, refused_completes}
use Rattle.csq_device.proofs.loops.put_one_back.Given.{Over}
use Rattle.csq_device.proofs.loops.put_one_back.Goals as goal
use Rattle.csq_device.proofs.loops.put_one_back.Goals.{In-Some, After-complete}

pub returns-in_default-clause-completed : goal.returns-in_default-clause-completed
returns-in_default-clause-completed g c =
    let call = c.in_default.ensures.call in
    let given = remove_next_gives g.N.QueueName.limits Any None (end_of g.N.QueueName.limits.first call.0) c.args.pass.now c.remove_next.new.pass call.1.steps tt in
    subst (λ n. HasCompleted CANCELLED n c.args.pass.now c.remove_next.new.pass) (sym c.none.ensures.completed) (given_none CANCELLED g.N.QueueName.limits true c.args.pass.now c.remove_next.new.pass given)

pub returns-in_default-clause-turn : goal.returns-in_default-clause-turn
returns-in_default-clause-turn g c =
    let call = c.in_default.ensures.call in
    let given = remove_next_gives g.N.QueueName.limits Any None (end_of g.N.QueueName.limits.first call.0) c.args.pass.now c.remove_next.new.pass call.1.steps tt in
    inl (c.none.ensures.made, removed_calls g.N.QueueName.limits None Any call.1.call.0 call.0 c.args.pass.now c.remove_next.new.pass call.1.call.1 given)

-- the removal got an IRP
module _ (g : Over) (c : In-Some g) where
  given : GivesOut g.N.QueueName.limits (Some c.in-Some.token) true c.args.pass.now c.remove_next.new.pass
  given = let call = c.in-Some.ensures.call in remove_next_gives g.N.QueueName.limits Any (Some c.in-Some.token) (end_of g.N.QueueName.limits.first call.0) c.args.pass.now c.remove_next.new.pass call.1.steps call.1.new

  removed : MakesCalls (RemoveNext Any (Some c.in-Some.token) ∷ []) c.args.pass.now c.remove_next.new.pass
  removed = let call = c.in-Some.ensures.call in removed_calls g.N.QueueName.limits (Some c.in-Some.token) Any call.1.call.0 call.0 c.args.pass.now c.remove_next.new.pass call.1.call.1 given

pub returns-in-Ok-Pending-clause-completed : goal.returns-in-Ok-Pending-clause-completed
returns-in-Ok-Pending-clause-completed g c =
    let back = c.in-Ok-Pending.ensures.call in
    subst (λ n. HasCompleted CANCELLED n c.args.pass.now c.put_back.new.pass) (sym c.one.ensures.completed)
    (pending_completes CANCELLED g.N.QueueName.limits c.in-Some.token c.args.pass.now c.remove_next.new.pass c.put_back.new.pass (given g (goal.at.returns-in-Ok-Pending-clause-completed g c).In-Some) c.in-Ok-Pending.field-0 c.in-Ok-Pending.field-0-0 (file_at g.N.QueueName.limits back.0 c.in-Some.token) Front back.1.accepted.0 (end_of g.N.QueueName.limits.first c.put_back.new.pass.seen) back.1.accepted.1 back.1.steps c.in-Ok-Pending.field-0-is)

pub returns-in-Ok-Pending-clause-turn : goal.returns-in-Ok-Pending-clause-turn
returns-in-Ok-Pending-clause-turn g c =
    let back = c.in-Ok-Pending.ensures.call in
    let file = file_at g.N.QueueName.limits back.0 c.in-Some.token in
    let call = back_calls g.N.QueueName.limits c.in-Some.token file Front c.in-Ok-Pending.field-0 (end_of g.N.QueueName.limits.first c.put_back.new.pass.seen) back.1.accepted.0 back.0 c.remove_next.new.pass c.put_back.new.pass back.1.accepted.1 back.1.accepted.2 back.1.steps in
    inr (c.one.ensures.made, c.in-Some.token, file, call.0, calls_more (PutBack c.in-Some.token file Front call.0) (RemoveNext Any (Some c.in-Some.token) ∷ []) c.args.pass.now c.remove_next.new.pass c.put_back.new.pass (removed g (goal.at.returns-in-Ok-Pending-clause-turn g c).In-Some) call.1)

pub returns-in-Ok-Cancelled-clause-completed : goal.returns-in-Ok-Cancelled-clause-completed
returns-in-Ok-Cancelled-clause-completed g c =
    let back = c.in-Ok-Cancelled.ensures.call in
    subst (λ n. HasCompleted CANCELLED n c.args.pass.now c.complete_cancelled.new.pass) (sym c.one-in-Ok-Cancelled.ensures.completed)
    (cancelled_completes CANCELLED g.N.QueueName.limits c.in-Some.token c.args.pass.now c.remove_next.new.pass c.put_back.new.pass (given g (goal.at.returns-in-Ok-Cancelled-clause-completed g c).In-Some) c.in-Ok-Cancelled.field-0 c.in-Ok-Cancelled.token (file_at g.N.QueueName.limits back.0 c.in-Some.token) Front back.1.accepted.0 (end_of g.N.QueueName.limits.first c.put_back.new.pass.seen) back.1.accepted.1 back.1.steps c.in-Ok-Cancelled.field-0-is c.complete_cancelled.new.pass c.complete_cancelled.ensures.call.step)

pub returns-in-Ok-Cancelled-clause-turn : goal.returns-in-Ok-Cancelled-clause-turn
returns-in-Ok-Cancelled-clause-turn g c =
    let back = c.in-Ok-Cancelled.ensures.call in
    let file = file_at g.N.QueueName.limits back.0 c.in-Some.token in
    let call = back_calls g.N.QueueName.limits c.in-Some.token file Front c.in-Ok-Cancelled.field-0 (end_of g.N.QueueName.limits.first c.put_back.new.pass.seen) back.1.accepted.0 back.0 c.remove_next.new.pass c.put_back.new.pass back.1.accepted.1 back.1.accepted.2 back.1.steps in
    let both = calls_more (PutBack c.in-Some.token file Front call.0) (RemoveNext Any (Some c.in-Some.token) ∷ []) c.args.pass.now c.remove_next.new.pass c.put_back.new.pass (removed g (goal.at.returns-in-Ok-Cancelled-clause-turn g c).In-Some) call.1 in
    inr (c.one-in-Ok-Cancelled.ensures.made, c.in-Some.token, file, call.0, completed_calls (PutBack c.in-Some.token file Front call.0 ∷ RemoveNext Any (Some c.in-Some.token) ∷ []) c.in-Ok-Cancelled.token CANCELLED c.args.pass.now c.put_back.new.pass c.complete_cancelled.new.pass both c.complete_cancelled.ensures.call.step)

-- the IRP was completed as cancelled
ended : (g : Over) (c : After-complete g) → c.complete.new.pass ≡ saw c.complete.new.pass.trace (with_completion c.in-Err.token CANCELLED (with_step (Done c.in-Err.token) 0 c.put_back.new.pass))
ended g c = search rules

pub returns-in-Err-clause-completed : goal.returns-in-Err-clause-completed
returns-in-Err-clause-completed g c =
    let at = goal.at.returns-in-Err-clause-completed g c in
    subst (λ n. HasCompleted CANCELLED n c.args.pass.now c.complete.new.pass) (sym c.one-in-Err.ensures.completed)
    (refused_completes CANCELLED g.N.QueueName.limits c.in-Some.token c.args.pass.now c.remove_next.new.pass c.put_back.new.pass (given g at.In-Some) c.in-Err.token c.in-Err.ensures.kept c.in-Err.ensures.call.1.steps c.complete.new.pass (ended g at.After-complete))

pub returns-in-Err-clause-turn : goal.returns-in-Err-clause-turn
returns-in-Err-clause-turn g c =
    let at = goal.at.returns-in-Err-clause-turn g c in
    let back = c.in-Err.ensures.call in
    let file = file_at g.N.QueueName.limits back.0 c.in-Some.token in
    let reply = Refused c.in-Err.field-0-0 in
    let call = refused_back_calls g.N.QueueName.limits c.in-Some.token file Front reply back.0 c.remove_next.new.pass c.put_back.new.pass back.1.refused back.1.steps in
    let both = calls_more (PutBack c.in-Some.token file Front reply) (RemoveNext Any (Some c.in-Some.token) ∷ []) c.args.pass.now c.remove_next.new.pass c.put_back.new.pass (removed g at.In-Some) call in
    inr (c.one-in-Err.ensures.made, c.in-Some.token, file, reply, completed_calls (PutBack c.in-Some.token file Front reply ∷ RemoveNext Any (Some c.in-Some.token) ∷ []) c.in-Err.token CANCELLED c.args.pass.now c.put_back.new.pass c.complete.new.pass both (ended g at.After-complete))
