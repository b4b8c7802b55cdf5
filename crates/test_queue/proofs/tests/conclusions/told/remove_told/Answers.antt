use Rattle.std.proofs.Common.{◌≡◌, ◌∷◌, None, Option, refl, ap, subst}
use Rattle.irp_core.specs.Own.{inside_of}
use Rattle.irp_core.specs.declared.ids.IrpLife.{IrpLife}
use Rattle.irp_core.specs.declared.inside.Inside.TheVariants.{Nothing}
use Rattle.csq_list.specs.declared.entry.Peek.TheVariants.{Any}
use Rattle.csq_words.proofs.Traced.{steps_extended}
use Rattle.csq_words.specs.Traces.{steps_in}
use Rattle.csq_words.specs.declared.views.Event.TheVariants.{RemoveNext}
use Rattle.csq_words.proofs.Facts.{extended_on}
use Rattle.csq_queue.specs.Calls.{RemovesNext}
use Rattle.csq_queue.specs.Order.{LockedCall}
use Rattle.csq_queue.specs.Searches.{marked}
use Rattle.test_queue.proofs.Emptying.{armed_stays, all_taken}
use Rattle.test_queue.proofs.tests.conclusions.told.remove_told.Goals as goal

pub returns : goal.returns
returns g c =
    let l = g.N.QueueName.limits in
    let old = c.learn.new.pass in
    let new = c.remove_next.new.pass in
    let history = c.remove_next.ensures.call.0 in
    let call = c.remove_next.ensures.call.1.call in
    let told = c.learn.ensures.call.agreed in
    let d : LockedCall l = record { old = old; new = new; found = history; events = RemoveNext Any c.remove_next.result ∷ marked call.0; adds = call.1 } in
    record {
      token = c.remove_next.ensures.call.1.token;
      after = (d, refl, λ before had. extended_on _ _ _ (extended_on _ _ _ had told.history) call.1.since);
      gone = λ none i was.
          let removes : RemovesNext Any None l history old new = subst (λ (r : Option IrpLife). RemovesNext Any r l history old new) none c.remove_next.ensures.call.1 in
          let outside : inside_of new.steps ≡ Nothing = ap inside_of removes.steps.steps in
          (armed_stays i (steps_in c.args.seen.trace) (steps_in new.trace) (steps_extended (extended_on _ _ _ told.trace call.1.follows)) was, all_taken l old new history removes.call.0 i removes.call.1 outside);
    }
