use Rattle.std.proofs.Common.{◌≡◌, ◌<◌, Ok, sym, ap, ◌∙◌, rules}
use Rattle.csq_checked.proofs.Imports.{arc_value, end_of, of_accepted}
use Rattle.csq_queue.specs.Calls.{file_at}
use Rattle.csq_queue.specs.Effects.{AddsEvents}
use Rattle.csq_checked.specs.Causes.{is_of_place}
use Rattle.csq_checked.proofs.Checking.{back_keeps}
use Rattle.csq_checked.proofs.Placing.{refused_there}
use Rattle.csq_checked.proofs.queue.CheckedQueue.put_back.Goals as goal
use Rattle.csq_checked.proofs.queue.CheckedQueue.put_back.Goals.{in-Ok, in-Err}

pub invariant_of-by : goal.invariant_of-by
invariant_of-by c =
    let words = arc_value c.by.inside.words in
    let known : c.args.irp.irp.0 < words.size.irps = search rules in
    let q = c.self.inside.queue in
    let promised = c.in-Ok.ensures in
    back_keeps words c.by.inside.pass c.by.inside.held c.by.inside.owed c.by.invariant c.args.irp known c.in-Ok.back (end_of q.limits.first c.put_back.new.pass.pass.seen) _ _
    promised.call.steps (of_accepted c.args.irp (file_at q.limits q.queue.history c.args.irp) c.args.place (λ a events. AddsEvents q.limits q.queue.history c.by.inside.pass.pass c.put_back.new.pass.pass events) (Ok c.in-Ok.back) promised.call.accepted) (search rules) promised.call.none_held promised.place (search rules)

pub returns : goal.returns
returns c = elim c.match-put_back.branch [
  | in-Ok w ↦ search rules
  | in-Err w ↦ record {
    call = record {
      cause = search rules;
      held = search rules;
      of_place = λ cause e.
          let of_queue = refused_there (arc_value c.by.inside.words) c.self.inside.queue (search rules) c.args.irp c.args.place w.in-Err.cause c.by.inside.pass.pass c.put_back.new.pass.pass (search rules) (search rules) in
          let same : w.in-Err.cause ≡ cause = cc in
          ap is_of_place (sym same) ∙ of_queue;
      call = search rules;
      kept = search rules;
    };
  }
]
