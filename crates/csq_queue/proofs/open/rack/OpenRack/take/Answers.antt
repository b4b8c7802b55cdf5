use Rattle.std.proofs.Common.{◌≡◌, ℕ, zero, suc, ◌<◌, ◌-◌, List, ◌∷◌, Option, ◌∙◌, ap, sym, arith}
use Rattle.csq_queue.proofs.Imports.{TableId, PassSeatState, new_seats, OpenRackState, rack_table}
use Rattle.csq_queue.proofs.open.rack.OpenRack.take.Goals as goal

-- the seats behind the first are of the same table
behind : (t : TableId) (next left : ℕ) (s : Option PassSeatState) (rest : List (Option PassSeatState)) → new_seats t next left ≡ s ∷ rest → 0 < left - 1 → rack_table rest ≡ t
behind t next zero s rest e some = absurd (omega arith)
behind t next (suc zero) s rest e some = absurd (omega arith)
behind t next (suc (suc left)) s rest e some =
    let tail : new_seats t (suc next) (suc left) ≡ rest = cc in
    sym (ap rack_table tail)

pub returns-clause-table : goal.returns-clause-table
returns-clause-table c = λ some. behind (rack_table c.self.inside.seats) c.self.inside.next c.self.inside.left c.in_ok-seat.seat c.take.new.self (sym c.self.invariant.seats_are ∙ c.in_ok-seat.ensures) some ∙ ap (λ (z : OpenRackState). z.table) c.self.view_is
