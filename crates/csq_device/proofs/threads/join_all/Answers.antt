use Rattle.std.proofs.Common.{◌≡◌, ◌+◌, [], ◌∷◌, ◌++◌, ◌∙◌, length, suc, vec_items, vec_len, sym, ap, subst, arith, rules}
use Rattle.csq_device.proofs.Imports.{into_iter_items, AreNumbered, cancels_by, completed_by, duties_of, inserts_by, put_backs_by, removals_by, total_by, AreReceipts, completions_of}
use Rattle.csq_device.proofs.Shifts.{completions_of-push, one_more_served}
use Rattle.csq_device.proofs.threads.join_all.Goals as goal

-- the thread that is joined is that of the next pass
pub loop-handle-preserved : goal.loop-handle-preserved
loop-handle-preserved g c =
    let was = c.loop-handle.invariant in
    let step = c.in-Some.ensures.steps in
    let old = vec_items c.loop-handle.receipts in
    let done = vec_len c.loop-handle.receipts in
    let kept = c.join-receipt.ensures in
    let receipt = c.join-receipt.result.receipt in
    let plus = c.plus-calls.ensures in
    let pushed : vec_items c.push.new.self ≡ old ++ receipt ∷ [] = c.in-Ok.ensures.items in
    let next : suc done ≡ vec_len c.push.new.self = search rules in
    let numbered = subst (λ hs. AreNumbered (suc done) (duties_of hs (λ h. h.promise))) step.0 was.numbered in
    let number : c.in-Some.handle.promise.number ≡ suc (length old) = let h = numbered.0 in grind rules in
    record {
      all = search rules;
      room = search rules;
      numbered = subst (λ n. AreNumbered (suc n) (duties_of (into_iter_items c.next.new.self) (λ h. h.promise))) next numbered.1;
      inserts =
          let before = was.inserts in
          let more = plus.inserts.made in
          let one = kept.0.inserts in
          let rest = ap (λ hs. total_by inserts_by (duties_of hs (λ h. h.promise))) step.0 in
          omega (arith, before, more, one, rest);
      removals =
          let before = was.removals in
          let more = plus.removals.made in
          let one = kept.0.removals in
          let rest = ap (λ hs. total_by removals_by (duties_of hs (λ h. h.promise))) step.0 in
          omega (arith, before, more, one, rest);
      cancels =
          let before = was.cancels in
          let more = plus.cancels.made in
          let one = kept.0.cancels in
          let rest = ap (λ hs. total_by cancels_by (duties_of hs (λ h. h.promise))) step.0 in
          omega (arith, before, more, one, rest);
      put_backs =
          let before = was.put_backs in
          let more = plus.put_backs.made in
          let one = kept.0.put_backs in
          let rest = ap (λ hs. total_by put_backs_by (duties_of hs (λ h. h.promise))) step.0 in
          omega (arith, before, more, one, rest);
      raced =
          let before = was.raced in
          let more = plus.raced in
          let inserts = plus.inserts.completed in
          let one = kept.0.raced in
          omega (arith, before, more, inserts, one);
      handed =
          let before = was.handed in
          let inserts = plus.inserts.completed in
          let removals = plus.removals.completed in
          let cancels = plus.cancels.completed in
          let put_backs = plus.put_backs.completed in
          let one = kept.1.count_is in
          let all : completed_by c.plus-calls.result ≡ completions_of old + length receipt.completed = omega (arith, before, inserts, removals, cancels, put_backs, one) in
          all ∙ (sym (completions_of-push old receipt) ∙ ap completions_of (sym pushed));
      receipts = subst AreReceipts (sym pushed) (one_more_served c.in-Some.handle.promise.number (completed_by c.join-receipt.result.calls) old receipt kept.1 number was.receipts);
    }
