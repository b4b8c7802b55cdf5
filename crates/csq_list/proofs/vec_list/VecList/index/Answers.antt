use Rattle.std.proofs.Common.{◌≡◌, sym, arith, ◌∙◌}
use Rattle.csq_list.proofs.Imports.{listing_of, position_from}
use Rattle.csq_list.proofs.Positions.{known-listed, index-of, position-read, position-there}
use Rattle.csq_list.proofs.vec_list.VecList.index.Given.{Over}
use Rattle.csq_list.proofs.vec_list.VecList.index.Goals as goal
use Rattle.csq_list.proofs.vec_list.VecList.index.Goals.{After-index}

read : (g : Over) (c : After-index g) → c.index.result.now ≡ position_from c.args.self.now.first c.args.self.now.entries.items c.args.irp
read g c =
    let l = c.args.self.now in
    let known = known-listed (listing_of l.entries.items l.pool.used.items l.pool.closed.items l.pool.limit l.pool.counts.limits.items) l.sound c.args.irp c.requires in
    position-read l.first l.entries.items l.positions.items c.args.irp c.index.result.now l.placed (omega (arith, known, l.all_placed)) c.index.ensures

pub unreachable-requires : goal.unreachable-requires
unreachable-requires g c = let l = c.args.self.now in position-there l.first l.entries.items c.args.irp c.index.result.now c.requires (read g (goal.at.unreachable-requires g c).After-index) c.in_default.is

pub overflow_sub-result : goal.overflow_sub-result
overflow_sub-result g c =
    let l = c.args.self.now in
    (index-of l.first l.entries.items c.args.irp c.in-Some.position (sym (read g (goal.at.overflow_sub-result g c).After-index) ∙ c.in-Some.is)).0

pub returns : goal.returns
returns g c =
    let l = c.args.self.now in
    (index-of l.first l.entries.items c.args.irp c.in-Some.position (sym (read g (goal.at.returns g c).After-index) ∙ c.in-Some.is)).1
