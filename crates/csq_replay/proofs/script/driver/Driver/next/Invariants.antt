use Rattle.std.proofs.Common.{◌≡◌, length}
use Rattle.csq_replay.proofs.Imports.{size_of, rest_after, IsStartIn, Limits, Script, Keeping, Keeps}
use Rattle.csq_replay.proofs.Removing.{Seeks}
use Rattle.csq_replay.proofs.script.driver.Driver.next.Given as goal

-- the removal has looked at the entries up to a place, and all but the machine is as it was
abbrev pub invariant-loop-irp : goal.invariant-loop-irp
invariant-loop-irp g l =
    let old : Keeping = record { machine = l.fn.self.machine; listing = g.L.PendingList.listing l.fn.self.list; statuses = l.fn.self.statuses.items; files = l.fn.self.files.items } in
    record {
      list : l.self.list ≡ l.fn.self.list;
      statuses : l.self.statuses ≡ l.fn.self.statuses;
      files : l.self.files ≡ l.fn.self.files;
      size : size_of l.self.machine ≡ size_of l.fn.self.machine;
      place : IsStartIn old.listing.entries l.after;
      seeks : (limits : Limits) (s : Script) → Keeps limits old s → Seeks limits.first l.peek s old.listing l.self.machine l.after;
    }

abbrev pub decreases-loop-irp : goal.decreases-loop-irp
decreases-loop-irp g l = length (rest_after l.after (g.L.PendingList.listing l.self.list).entries)
