use Rattle.irp_core.specs.Runs.{Size}
use Rattle.csq_explain.proofs.Following.{passes_none}
use Rattle.csq_explain.proofs.MovedIrps.{irps_none}
use Rattle.csq_explain.proofs.execution.Execution.new.Goals as goal

pub returns : goal.returns
returns g c =
    let size : Size = record { irps = c.args.irps; passes = c.args.passes; first = 0 } in
    record {
      same = c.in-Ok.ensures.size;
      limits = c.requires;
      agrees = c.in-Ok.ensures.agrees;
      passes = passes_none size _ c.in_ok-new_passes.ensures;
      irps = irps_none size _ c.in_ok-new_irps.ensures;
    }
