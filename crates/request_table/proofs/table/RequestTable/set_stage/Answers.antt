use Rattle.std.proofs.Common.{is_some, sym, ap, ◌∙◌}
use Rattle.request_table.specs.Stages.{file_of, is_under_way}
use Rattle.request_table.specs.Requests.{Requests, stage_of, due_of}
use Rattle.request_table.proofs.Keeping.{kept-stage}
use Rattle.request_table.proofs.table.RequestTable.set_stage.Goals as goal

pub invariant_of-self : goal.invariant_of-self
invariant_of-self g c =
    let i = c.args.irp in
    kept-stage c.self.invariant i c.args.stage
    (ap (λ (r : Requests). is_under_way (stage_of r i)) c.self.view_is ∙ c.requires.under_way)
    (c.requires.file ∙ ap (λ (r : Requests). file_of (stage_of r i)) (sym c.self.view_is))
    (λ due. c.requires.waits (ap (λ (r : Requests). is_some (due_of r i)) (sym c.self.view_is) ∙ due))
