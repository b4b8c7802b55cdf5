use Rattle.std.proofs.Common.{◌≡◌, [], ◌++◌, ◌∷◌, ◌∙◌, ap, sym, length, add-one, arith}
use Rattle.csq_explain.specs.IrpRecords.{record_after, records}
use Rattle.csq_explain.proofs.Tables.{length-table}
use Rattle.csq_explain.proofs.order.Order.new.Goals as goal

pub loop-number-init : goal.loop-number-init
loop-number-init g c = c.new-records.ensures.items

pub loop-number-preserved : goal.loop-number-preserved
loop-number-preserved g c =
    let n = c.loop-number.number in
    c.in_ok-push.ensures.items ∙ ap (λ rs. rs ++ c.new.result ∷ []) c.loop-number.invariant ∙ ap (λ r. records n [] ++ r ∷ []) c.new.ensures ∙ ap (λ k. records k []) (sym (add-one n))

pub returns : goal.returns
returns g c =
    let all : c.loop-number.number ≡ c.args.irps = omega arith in
    let known = c.loop-number.invariant ∙ ap (λ k. records k []) all in
    record { count = ap length known ∙ length-table (λ n. record_after [] (record { 0 = n })) c.args.irps; known = known; harms = c.new-2.ensures.items }
