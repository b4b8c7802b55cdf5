use Rattle.csq_list.specs.declared.vec_list.TheConstants.{MIDDLE}
use Rattle.std.proofs.Common.{◌≡◌, ◌<◌, ◌-◌, true, ap, length, take, subst, sym, ◌∙◌, rules, arith}
use Rattle.csq_list.proofs.Imports.{take_rest, IrpId, is_listed, HasPositions, with_positions, listing_of}
use Rattle.csq_list.proofs.Positions.{known-listed, all-known, placed-anew, length-with_positions}
use Rattle.csq_list.proofs.vec_list.VecList.count_anew.Given.{Over}
use Rattle.csq_list.proofs.vec_list.VecList.count_anew.Goals as goal
use Rattle.csq_list.proofs.vec_list.VecList.count_anew.Goals.{After-len-len}

known : (g : Over) (c : After-len-len g) (j : IrpId) → is_listed c.args.self.now.entries.items j ≡ true → j.0 < length c.args.self.now.positions.items
known g c j m =
    let l = c.args.self.now in
    let below = known-listed (listing_of l.entries.items l.pool.used.items l.pool.closed.items l.pool.limit l.pool.counts.limits.items) l.sound j m in
    omega (arith, below, l.all_placed)

pub write_positions-requires-clause-known : goal.write_positions-requires-clause-known
write_positions-requires-clause-known g c =
    let l = c.args.self.now in
    all-known l.entries.items (length l.positions.items) (known g (goal.at.write_positions-requires-clause-known g c).After-len-len)

pub invariant_of-self : goal.invariant_of-self
invariant_of-self g c =
    let l = c.args.self.now in
    let len : c.len-len.result ≡ length l.entries.items = search rules in
    let written : c.write_positions.new.positions.items ≡ with_positions MIDDLE l.entries.items l.positions.items =
    c.write_positions.ensures ∙ ap (λ es. with_positions MIDDLE es l.positions.items) (ap (λ n. take (n - 0) l.entries.items) len ∙ take_rest l.entries.items 0) in
    record {
      sound = l.sound;
      placed = subst (λ ps. HasPositions MIDDLE ps l.entries.items) (sym written) (placed-anew l.first MIDDLE l.entries.items l.positions.items l.placed l.sound.distinct (known g (goal.at.invariant_of-self g c).After-len-len));
      all_placed = ap length written ∙ length-with_positions MIDDLE l.entries.items l.positions.items ∙ l.all_placed;
      in_range = omega (arith, l.sound.within_limit, l.pool.limit_within, l.pool.irps_small);
      filed = l.filed;
      room = l.room;
    }
