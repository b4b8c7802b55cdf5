use Rattle.std.proofs.Common.{Some, subst}
use Rattle.csq_c.specs.Bodies.{QueueBodyState}
use Rattle.csq_c.specs.Calls.{ClosesFileOf}
use Rattle.csq_c.specs.contracts.body.QueueBody.{the_view}
use Rattle.csq_c.proofs.Called.{on_open}
use Rattle.csq_c.proofs.body.QueueBody.close_file.Goals as goal

pub returns : goal.returns
returns c =
    let after = the_view (record { queue = Some c.close_file.new.self; rest = c.self.inside.rest }) in
    subst (λ (body : QueueBodyState). ClosesFileOf c.args.file body after c.args.by.now c.close_file.new.by c.of_close_file.result) c.self.view_is
    (on_open (the_view c.self.inside) c.in-Some.queue c.close_file.new.self c.args.by.now c.close_file.new.by c.of_close_file.result _ _ c.in-Some.is
    (c.close_file.result, c.close_file.ensures.call, c.of_close_file.ensures))
