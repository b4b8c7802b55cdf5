use Rattle.std.proofs.Common.{sym, subst}
use Rattle.csq_queue.proofs.Imports.{AllBack, OpenState}
use Rattle.csq_queue.proofs.open.queue.OpenQueue.into_rest.Goals as goal

pub close-requires-clause-back : goal.close-requires-clause-back
close-requires-clause-back g c = subst (λ (z : OpenState). AllBack z.queue) (sym c.self.view_is) c.requires.back
