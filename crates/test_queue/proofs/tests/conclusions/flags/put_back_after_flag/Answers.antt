use Rattle.std.proofs.Common.{◌≡◌, true, List, Ok, Result, sym, ap, subst, ◌∙◌, rules}
use Rattle.std.specs.Prelude.{IfOk}
use Rattle.irp_core.specs.declared.ids.IrpLife.{IrpLife}
use Rattle.irp_core.specs.declared.step.Kind.TheVariants.{Rearm}
use Rattle.irp_core.specs.Words.{flagged}
use Rattle.csq_list.specs.declared.refusals.InsertStatus.{InsertStatus}
use Rattle.csq_words.specs.Traces.{steps_in}
use Rattle.csq_words.specs.declared.views.Event.{Event}
use Rattle.csq_words.specs.declared.views.PassRecord.{PassRecord}
use Rattle.csq_words.specs.declared.views.Tick.{Tick}
use Rattle.csq_words.specs.History.{end_of}
use Rattle.irp_core.proofs.Own.{flagged_own}
use Rattle.csq_queue.specs.Calls.{file_at}
use Rattle.csq_queue.specs.Named.{queue_size}
use Rattle.csq_queue.specs.Inserts.{IsPutBack, without_token}
use Rattle.csq_queue.specs.Steps.{MakesSteps, put_back_steps}
use Rattle.csq_queue.specs.Effects.{AddsEvents}
use Rattle.csq_queue.specs.declared.tokens.InsertAnswer.{InsertAnswer}
use Rattle.csq_queue.specs.declared.tokens.InsertAnswer.TheVariants.{Pending}
use Rattle.test_queue.proofs.Flagging.{pending_taken}
use Rattle.test_queue.proofs.tests.conclusions.flags.put_back_after_flag.Goals as goal

pub returns : goal.returns
returns g c = record {
  token = search rules;
  kept = search rules;
  claimed = λ i answer was.
      let l = g.N.QueueName.limits in
      let met = c.meet.ensures in
      let old = c.meet.new.other in
      let new = c.put_back.new.pass in
      let made : MakesSteps (put_back_steps (Ok (Pending i)) (end_of l.first new.seen)) old new =
      subst (λ (r : Result (InsertAnswer IrpLife IrpLife) (InsertStatus × IrpLife)). MakesSteps (put_back_steps (without_token r) (end_of l.first new.seen)) old new) answer c.put_back.ensures.call.1.steps in
      let history = c.put_back.ensures.call.0 in
      let told : (events : List Event) × IsPutBack c.args.token (file_at l history c.args.token) c.args.place (Pending i) events × AddsEvents l history old new events =
      subst (λ (r : Result (InsertAnswer IrpLife IrpLife) (InsertStatus × IrpLife)). IfOk (without_token r) (λ inserted. (events : List Event) × IsPutBack c.args.token (file_at l history c.args.token) c.args.place inserted events × AddsEvents l history old new events))
      answer c.put_back.ensures.call.1.accepted in
      let steps = ap (λ (r : PassRecord). r.steps) met.one_kept in
      let own' = met.one_sees.agrees.pass_is.steps_is in
      let seen : flagged (steps_in c.meet.new.one.trace) i ≡ true = flagged_own c.meet.new.one.pass (steps_in c.meet.new.one.trace) i (ap (λ s. flagged s i) (sym own' ∙ steps) ∙ was) in
      pending_taken Rearm (queue_size l) i old new made.pass (ap (λ (trace : List Tick). flagged (steps_in trace) i) (sym met.run) ∙ seen) told.2.follows met.other_sees.agrees.pass_is.steps_is told.2.sees made.steps;
}
