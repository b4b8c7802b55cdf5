use Rattle.std.proofs.Common.{◌≡◌, ◌++◌, map, length}
use Rattle.csq_replay.proofs.Imports.{Entry, rest_after, IsStartIn}
use Rattle.csq_replay.proofs.script.remains.listed_irps.Given as goal

-- the IRPs so far and those of the rest are all
abbrev pub invariant-loop-irp : goal.invariant-loop-irp
invariant-loop-irp g l =
    let entries = (g.L.PendingList.listing l.list).entries in
    record {
      noted : l.irps.items ++ map (λ (e : Entry). e.irp) (rest_after l.after entries) ≡ map (λ (e : Entry). e.irp) entries;
      place : IsStartIn entries l.after;
    }

abbrev pub decreases-loop-irp : goal.decreases-loop-irp
decreases-loop-irp g l = length (rest_after l.after (g.L.PendingList.listing l.list).entries)
