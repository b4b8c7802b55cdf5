use Rattle.std.proofs.Common.{◌∙◌}
use Rattle.csq_ledger.proofs.Linking.{taken_stage}
use Rattle.csq_ledger.proofs.ledger.remove_first.Goals as goal

pub unreachable-requires : goal.unreachable-requires
unreachable-requires c =
    let stage = taken_stage c.args.queue.now c.args.table.now c.requires c.in-Some.name c.take.new.self c.in-Some.ensures.taken in
    c.in_default-stage.not-Listed stage.0 (c.stage.ensures ∙ stage.1)
