use Rattle.std.proofs.Common.{◌≡◌, ℕ, ◌<◌}
use Rattle.csq_queue.proofs.Imports.{some, get_elem?, PassRecord}
use Rattle.csq_queue.proofs.back.see.Given as goal

-- the receipts that were seen are among what was shown
abbrev pub invariant-receipts : goal.invariant-receipts
invariant-receipts g l =
    (l.queue ≡ record l.fn.queue { queue = record l.fn.queue.queue { shown = l.queue.queue.shown } })
    × (l.receipts ≡ l.fn.receipts)
    × ((k : ℕ) (r : PassRecord) → k < l.next → get_elem? l.fn.receipts k ≡ some r → (n : ℕ) × (get_elem? l.queue.queue.shown n ≡ some r))
