use Rattle.std.proofs.Common.{length}
use Rattle.csq_queue.proofs.Imports.{rest_after, limits_on, IsSearch}
use Rattle.csq_queue.proofs.protocol.take_match.Given as goal

-- the matches that were passed are marked
abbrev pub invariant-search : goal.invariant-search
invariant-search g l = IsSearch (limits_on l.fn.words (g.L.PendingList.listing l.fn.list)) l.fn.seat l.peek l.after (g.L.PendingList.listing l.list) l.kept l.seat

-- and each look comes nearer to the list's end
abbrev pub decreases-search : goal.decreases-search
decreases-search g l = length (rest_after l.after (g.L.PendingList.listing l.list).entries)
