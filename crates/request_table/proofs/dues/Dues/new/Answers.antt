use Rattle.request_table.proofs.Trees.{none-yet}
use Rattle.request_table.proofs.dues.Dues.new.Goals as goal

pub returns : goal.returns
returns g c = none-yet c.args.irps c.in_ok-times.times.items (c.in_ok-times.ensures.items_if_clones_equal (λ y h. h))
