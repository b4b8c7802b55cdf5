use Rattle.std.proofs.Common.{◌≡◌, ℕ, zero, suc, length, refl, ap, ◌∙◌, arith}
use Rattle.csq_queue.proofs.Imports.{TableId, new_seats, OpenRackState, rack_table}
use Rattle.csq_queue.proofs.open.rack.OpenRack.put_back.Goals as goal

-- so many seats are left
counted : (t : TableId) (next left : ℕ) → length (new_seats t next left) ≡ left
counted t next zero = refl
counted t next (suc left) = ap suc (counted t (suc next) left)

pub put_back-requires : goal.put_back-requires
put_back-requires c =
    let seats = ap length c.self.invariant.seats_are ∙ counted (rack_table c.self.inside.seats) c.self.inside.next c.self.inside.left in
    let few = c.self.invariant.few in
    let from = c.self.invariant.from in
    let passes = ap (λ (z : OpenRackState). z.passes) c.self.view_is in
    let left = ap (λ (z : OpenRackState). z.left) c.self.view_is in
    let taken = c.requires.taken in
    omega arith
