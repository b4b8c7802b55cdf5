use Rattle.std.specs.VecDeque.{deque_capacity}
use Rattle.std.proofs.Common.{arith}
use Rattle.request_table.proofs.Keeping.{kept-fresh}
use Rattle.request_table.proofs.table.RequestTable.with_size.Goals as goal

pub invariant_of-result : goal.invariant_of-result
invariant_of-result g c =
    rw (c.in_ok-vec-2.ensures.items_if_clones_equal (λ y h. h), c.in_ok-vec.ensures.items_if_clones_equal (λ y h. h), c.in_ok-all_numbers.ensures.numbers, c.in_ok-new.ensures, c.in_ok-vec-3.ensures.items_if_clones_equal (λ y h. h))
    (kept-fresh c.args.irps c.args.files (deque_capacity c.in_ok-all_numbers.field-0) c.requires.size (omega (arith, c.in_ok-all_numbers.ensures.room)))
