use Rattle.std.proofs.Common.{◌++◌, ◌∙◌, ap, sym, append-nil, arith}
use Rattle.csq_explain.specs.Harms.{end_harms, harm_list, step_harms}
use Rattle.csq_explain.proofs.Orders.{ends_all, ends_more}
use Rattle.csq_explain.proofs.order.Order.harms.Goals as goal

pub loop-record-init : goal.loop-record-init
loop-record-init g c = c.in_ok-harms.ensures.items ∙ c.deref.ensures.value ∙ sym (append-nil _)

pub loop-record-preserved : goal.loop-record-preserved
loop-record-preserved g c =
    ends_more c.deref-record-items.result.now c.loop-record.record-index _ _ _ _ (omega arith) c.loop-record.invariant (c.in_ok-push_harm.ensures ∙ ap (λ o. c.loop-record.harms.items ++ harm_list o) c.end_harm.ensures)

pub returns : goal.returns
returns g c = λ irps V stands.
    ends_all c.deref-record-items.result.now c.loop-record.record-index _ _ (omega arith) c.loop-record.invariant
    ∙ ap (λ hs. hs ++ end_harms c.deref-record-items.result.now) stands.harms
    ∙ ap (λ rs. step_harms V ++ end_harms rs) (c.deref-record-items.ensures.value ∙ stands.known)
