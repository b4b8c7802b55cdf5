use Rattle.std.proofs.Common.{length}
use Rattle.csq_replay.proofs.Imports.{Limits, Script, Keeping, Keeps}
use Rattle.csq_replay.proofs.Cleaning.{CleansSoFar}
use Rattle.csq_replay.proofs.script.driver.Driver.remove_all.Given as goal

-- so many removals were answered, each with its completion
abbrev pub invariant-loop-removed : goal.invariant-loop-removed
invariant-loop-removed g l =
    let old : Keeping = record { machine = l.fn.self.machine; listing = g.L.PendingList.listing l.fn.self.list; statuses = l.fn.self.statuses.items; files = l.fn.self.files.items } in
    let now : Keeping = record { machine = l.self.machine; listing = g.L.PendingList.listing l.self.list; statuses = l.self.statuses.items; files = l.self.files.items } in
    (limits : Limits) (s : Script) → Keeps limits old s → CleansSoFar limits l.file s now l.completed

abbrev pub decreases-loop-removed : goal.decreases-loop-removed
decreases-loop-removed g l = length (g.L.PendingList.listing l.self.list).entries
