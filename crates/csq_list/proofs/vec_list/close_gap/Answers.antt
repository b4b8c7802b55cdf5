use Rattle.std.proofs.Common.{◌≡◌, ap, length, ◌+◌, ◌-◌, take, drop, subst, sym, ◌∙◌, rules, arith}
use Rattle.csq_list.proofs.Imports.{take_rest, HasPositions, with_positions}
use Rattle.csq_list.proofs.Positions.{closed-before, closed-later, listed-known, length-with_positions}
use Rattle.csq_list.proofs.vec_list.close_gap.Given.{Over}
use Rattle.csq_list.proofs.vec_list.close_gap.Goals as goal
use Rattle.csq_list.proofs.vec_list.close_gap.Goals.{After-write_positions, After-write_positions-else-index-len}

before : (g : Over) (c : After-write_positions g) → c.write_positions.new.positions.items ≡ with_positions (c.args.first + 1) (take c.args.index c.args.entries.now.items) c.args.positions.now.items
before g c = c.write_positions.ensures ∙ ap (λ n. with_positions (c.args.first + 1) (take n c.args.entries.now.items) c.args.positions.now.items) (omega arith)

later : (g : Over) (c : After-write_positions-else-index-len g) → c.write_positions-else-index-len.new.positions.items ≡ with_positions (c.args.first + c.args.index) (drop c.args.index c.args.entries.now.items) c.args.positions.now.items
later g c =
    let es = c.args.entries.now.items in
    let len : c.len-len.result ≡ length es = search rules in
    c.write_positions-else-index-len.ensures
    ∙ ap (λ xs. with_positions (c.args.first + c.args.index) xs c.args.positions.now.items) (ap (λ n. take (n - c.args.index) (drop c.args.index es)) len ∙ take_rest es c.args.index)

pub returns-then-index-len-clause-placed : goal.returns-then-index-len-clause-placed
returns-then-index-len-clause-placed g c =
    let es = c.args.entries.now.items in
    let ps = c.args.positions.now.items in
    subst (λ xs. HasPositions (c.args.first + 1) xs es) (sym (before g (goal.at.returns-then-index-len-clause-placed g c).After-write_positions))
    (closed-before c.args.index c.args.first es ps c.requires.within (listed-known es (length ps) c.requires.known) c.requires.distinct c.requires.gap)

pub returns-then-index-len-clause-len : goal.returns-then-index-len-clause-len
returns-then-index-len-clause-len g c =
    ap length (before g (goal.at.returns-then-index-len-clause-len g c).After-write_positions) ∙ length-with_positions (c.args.first + 1) (take c.args.index c.args.entries.now.items) c.args.positions.now.items

pub returns-else-index-len-clause-placed : goal.returns-else-index-len-clause-placed
returns-else-index-len-clause-placed g c =
    let es = c.args.entries.now.items in
    let ps = c.args.positions.now.items in
    subst (λ xs. HasPositions c.args.first xs es) (sym (later g (goal.at.returns-else-index-len-clause-placed g c).After-write_positions-else-index-len))
    (closed-later c.args.index c.args.first es ps c.requires.within (listed-known es (length ps) c.requires.known) c.requires.distinct c.requires.gap)

pub returns-else-index-len-clause-len : goal.returns-else-index-len-clause-len
returns-else-index-len-clause-len g c =
    ap length (later g (goal.at.returns-else-index-len-clause-len g c).After-write_positions-else-index-len) ∙ length-with_positions (c.args.first + c.args.index) (drop c.args.index c.args.entries.now.items) c.args.positions.now.items
