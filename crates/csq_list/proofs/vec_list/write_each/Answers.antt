use Rattle.std.proofs.Common.{◌<◌, ap, length, set, length-set, Some, sym, ◌∙◌, subst, arith}
use Rattle.csq_list.proofs.Imports.{All, deque_iter_rest, All-tail, Entry, with_positions}
use Rattle.csq_list.proofs.vec_list.write_each.Goals as goal

pub loop-entry-preserved : goal.loop-entry-preserved
loop-entry-preserved g c =
    let before = c.loop-entry in
    let e = c.in-Some.entry.now in
    let rest = deque_iter_rest c.next.new.self in
    let same = length-set before.positions.items e.irp.0 (Some before.position) in
    record {
      written = ap (λ n. with_positions n rest (set before.positions.items e.irp.0 (Some before.position))) (omega arith)
          ∙ ap (λ es. with_positions before.position es before.positions.items) (sym c.in-Some.ensures.steps) ∙ before.invariant.written;
      at = omega (arith, before.invariant.at, ap length c.in-Some.ensures.steps);
      known =
          subst (λ n. All (λ (x : Entry). x.irp.0 < n) rest) (sym same)
          (All-tail (λ (x : Entry). x.irp.0 < length before.positions.items) e rest
          (subst (All (λ (x : Entry). x.irp.0 < length before.positions.items)) c.in-Some.ensures.steps before.invariant.known));
    }
