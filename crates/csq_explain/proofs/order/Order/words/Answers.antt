use Rattle.std.proofs.Common.{ap, ◌∙◌, arith}
use Rattle.csq_explain.specs.declared.irp_record.IrpRecord.{IrpRecord}
use Rattle.csq_explain.proofs.Orders.{words_there}
use Rattle.csq_explain.proofs.order.Order.words.Goals as goal

pub returns : goal.returns
returns g c = λ irps V stands. ap (λ (r : IrpRecord). r.words) c.index.ensures ∙ words_there c.args.self.now irps V c.args.irp _ (omega (arith, c.requires, stands.count)) stands
