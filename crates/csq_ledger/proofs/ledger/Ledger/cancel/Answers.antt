use Rattle.csq_ledger.proofs.Naming.{named_at}
use Rattle.csq_ledger.proofs.ledger.Ledger.cancel.Goals as goal

pub cut_short-requires : goal.cut_short-requires
cut_short-requires c = record {
  in_range = c.knows.ensures.in_range c.if-not-knows.false;
  is_present = (named_at c.args.self.now c.args.irp c.stage.result c.stage.ensures c.in_default.not-Spent).0;
}
