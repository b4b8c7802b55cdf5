use Rattle.std.proofs.Common.{◌≡◌, true, List, Ok, Result, subst}
use Rattle.std.specs.Prelude.{IfOk}
use Rattle.irp_core.specs.declared.ids.IrpLife.{IrpLife}
use Rattle.irp_core.specs.declared.step.Kind.TheVariants.{Arm}
use Rattle.irp_core.specs.Words.{flagged}
use Rattle.csq_list.specs.declared.refusals.InsertStatus.{InsertStatus}
use Rattle.csq_words.proofs.Traced.{steps_extended}
use Rattle.csq_words.specs.Traces.{steps_in}
use Rattle.csq_words.specs.declared.views.Event.{Event}
use Rattle.csq_words.specs.Queue.{present_in}
use Rattle.csq_words.specs.History.{end_of}
use Rattle.csq_queue.specs.Named.{queue_size}
use Rattle.csq_queue.specs.Inserts.{IsInsert}
use Rattle.csq_queue.specs.Steps.{MakesSteps, insert_steps}
use Rattle.csq_queue.specs.Effects.{AddsEvents}
use Rattle.csq_queue.specs.declared.tokens.InsertAnswer.{InsertAnswer}
use Rattle.csq_queue.specs.declared.tokens.InsertAnswer.TheVariants.{Pending}
use Rattle.test_queue.proofs.Flagging.{flag_stays, pending_taken}
use Rattle.test_queue.proofs.tests.conclusions.told.insert_told.Goals as goal

pub returns : goal.returns
returns g c = record {
  token = c.insert.ensures.call.1.token;
  claimed = λ i answer was.
      let l = g.N.QueueName.limits in
      let told = c.learn.ensures.call.agreed in
      let old = c.learn.new.pass in
      let new = c.insert.new.pass in
      let made : MakesSteps (insert_steps (Ok (Pending i)) (end_of l.first new.seen)) old new =
      subst (λ (r : Result (InsertAnswer IrpLife IrpLife) InsertStatus). MakesSteps (insert_steps r (end_of l.first new.seen)) old new) answer c.insert.ensures.call.1.steps in
      let history = c.insert.ensures.call.0 in
      let adds : (events : List Event) × IsInsert (present_in (end_of l.first history) c.args.irp) c.args.file c.args.place (Pending i) events × AddsEvents l history old new events =
      subst (λ (r : Result (InsertAnswer IrpLife IrpLife) InsertStatus). IfOk r (λ inserted. (events : List Event) × IsInsert (present_in (end_of l.first history) c.args.irp) c.args.file c.args.place inserted events × AddsEvents l history old new events))
      answer c.insert.ensures.call.1.accepted in
      let seen : flagged (steps_in old.trace) i ≡ true = flag_stays i (steps_in c.args.seen.trace) (steps_in old.trace) (steps_extended told.trace) was in
      pending_taken Arm (queue_size l) i old new made.pass seen adds.2.follows told.sees.steps_are adds.2.sees made.steps;
}
