use Rattle.std.proofs.Common.{◌≡◌, ℕ, ◌∷◌, ◌∙◌, List, set, ap, sym, subst, arith}
use Rattle.csq_queue.proofs.Imports.{set-get_or, some, get_elem?, get_or, PassRecord, with_shown, OpenState}
use Rattle.csq_words.proofs.Indexes.{at_below}
use Rattle.csq_queue.proofs.Backing.{seen_more}
use Rattle.csq_queue.proofs.back.see.Goals as goal

pub receipts-preserved : goal.receipts-preserved
receipts-preserved g c =
    let was = c.receipts.invariant in
    let old = c.args.queue.now in
    let b = c.index-receipts-next.result in
    let is = c.index-receipts-next.is in
    let q = c.receipts.queue in
    let e : c.see_one.new.queue ≡ record q { queue = with_shown b q.queue } = c.see_one.ensures.queue ∙ ap (λ r. record q { queue = with_shown r q.queue }) (sym is) in
    let grown : c.see_one.new.queue.queue.shown ≡ b ∷ q.queue.shown = ap (λ (z : OpenState). z.queue.shown) e in (
      e ∙ (ap (λ (z : OpenState). record z { queue = with_shown b z.queue }) was.0 ∙ ap (λ (z : List PassRecord). record old { queue = record old.queue { shown = z } }) (sym grown)),
      ap (set c.receipts.receipts c.receipts.next) c.see_one.ensures.kept ∙ (set-get_or c.receipts.receipts c.receipts.next b ∙ was.1),
      λ k r l at. subst (λ (s : List PassRecord). (j : ℕ) × (get_elem? s j ≡ some r)) (sym grown)
          (seen_more c.args.receipts.now q.queue.shown c.receipts.next b was.2 (ap (λ rs. get_or rs c.receipts.next b) (sym was.1) ∙ sym is) k r l at),
    )

pub returns-clause-shown : goal.returns-clause-shown
returns-clause-shown g c =
    let was = c.receipts.invariant in
    let over = c.receipts-test.false in
    λ k r at.
    was.2 k r (omega (arith, at_below c.args.receipts.now k r at, over)) at
