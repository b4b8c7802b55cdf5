use Rattle.std.proofs.Common.{◌++◌, List, [], ◌∷◌, map, replicate, sym, ap, ◌∙◌, arith, append_assoc, zero-add}
use Rattle.std.proofs.lemmas.List.FromFn.{map-range_with_len_more}
use Rattle.csq_device.proofs.Imports.{range_with_len, Role, Submitter, Worker, Canceller}
use Rattle.csq_device.proofs.roles.roles_of.Goals as goal

pub loop-first-preserved : goal.loop-first-preserved
loop-first-preserved g c =
    let was = c.loop-first.invariant in
    let pushed = c.in_ok-push.ensures in
    let first = c.loop-first.first in
    record {
      count = let count = was.count in let longer = pushed.len in omega arith;
      roles = pushed.items ∙ ap (λ (rs : List Role). rs ++ Submitter first ∷ []) was.roles ∙ sym (map-range_with_len_more (λ n. Submitter n) 0 first first (zero-add first));
    }

pub loop-first-2-preserved : goal.loop-first-2-preserved
loop-first-2-preserved g c =
    let was = c.loop-first-2.invariant in
    let pushed = c.in_ok-push-3.ensures in
    let first = c.loop-first-2.first in
    let before = map (λ n. Submitter n) (range_with_len 0 c.args.plan.submitters) in
    let workers = replicate c.args.plan.workers Worker in
    record {
      count = let count = was.count in let longer = pushed.len in omega arith;
      roles = pushed.items
          ∙ ap (λ (rs : List Role). rs ++ Canceller first ∷ []) was.roles
          ∙ append_assoc (before ++ workers) (map (λ n. Canceller n) (range_with_len 0 first)) (Canceller first ∷ [])
          ∙ ap (λ (rs : List Role). before ++ workers ++ rs) (sym (map-range_with_len_more (λ n. Canceller n) 0 first first (zero-add first)));
    }
