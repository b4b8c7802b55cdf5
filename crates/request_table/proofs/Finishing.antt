-- What is listed is finished once.
use Rattle.std.proofs.Common.{◌≡◌, ◌<◌, ◌+◌, ℕ, true, false, List, [], ◌∷◌, filter, length, replicate, drop, slice_get, get_or, set, Some, inl, inr, refl, sym, ap, ◌∙◌, arith, true≢false, get_or-set_same, get_or-set_other}
use Rattle.std.proofs.lemmas.Bool.{cases_lt}
use Rattle.std.proofs.lemmas.List.{get_or_past, get_or-replicate, length-replicate}
use Rattle.irp_core.proofs.Names.{same_id-refl}
use Rattle.irp_core.specs.Steps.{same_id}
use Rattle.irp_core.specs.Words.{bit}
use Rattle.irp_core.specs.declared.ids.IrpId.{IrpId}
use Rattle.request_table.specs.declared.stage.{Stage.{Stage, TheVariants.{Free, Listed, Taken, Ending, Spent}}}
use Rattle.request_table.specs.Stages.{is_free, is_under_way, may_finish}
use Rattle.request_table.specs.Requests.{Requests, stage_of, times_free, stage_after, free_after}
use Rattle.request_table.specs.Laws.{Call, Lists, Moves, Finishes, lists, finishes, after_all, AreCalls}
use Rattle.request_table.proofs.Counting.{count-cons}
use Rattle.request_table.proofs.Keeping.{by_number, known-by, once-moved, not-free, is-free, first-free, rest-else, free-here, free-else, over-at-all, other-id, fresh-once}

-- a table after calls: what is free stands once, and the calls are counted
pub record IsCounted (calls : List Call) (r : Requests) : Type 0 where
  pub once : (i : IrpId) → times_free r i ≡ bit (is_free (stage_of r i))
  pub count : (i : IrpId) → length (filter (lists i) calls) ≡ length (filter (finishes i) calls) + bit (is_under_way (stage_of r i))

more : (c : Call) (calls : List Call) (r : Requests) (i : IrpId) (s : Stage) (free : List IrpId) → IsCounted calls r → i.0 < length r.stages
    → length (filter (same_id i) free) ≡ bit (is_free s) → ((j : IrpId) → (j.0 ≡ i.0 → ⊥) → length (filter (same_id j) free) ≡ times_free r j)
    → bit (lists i c) + bit (is_under_way (stage_of r i)) ≡ bit (finishes i c) + bit (is_under_way s)
    → ((j : IrpId) → (j.0 ≡ i.0 → ⊥) → (lists j c ≡ false) × (finishes j c ≡ false))
    → IsCounted (c ∷ calls) (record r { stages = set r.stages i.0 s; free = free })
more c calls r i s free k known here others own none = record {
  once = once-moved r k.once i s free known here others;
  count = by_number (λ j. length (filter (lists j) (c ∷ calls)) ≡ length (filter (finishes j) (c ∷ calls)) + bit (is_under_way (get_or (set r.stages i.0 s) j.0 Spent))) i
      (omega (arith, k.count i, own, count-cons (lists i) c calls, count-cons (finishes i) c calls, ap (λ x. bit (is_under_way x)) (get_or-set_same r.stages i.0 s Spent known)))
      (λ j apart. omega (arith, k.count j, ap bit (none j apart).0, ap bit (none j apart).1, count-cons (lists j) c calls, count-cons (finishes j) c calls, ap (λ x. bit (is_under_way x)) (get_or-set_other r.stages i.0 j.0 s Spent apart)));
}

first-of : (free : List IrpId) (i : IrpId) → slice_get free 0 ≡ Some i → free ≡ i ∷ drop 1 free
first-of [] i is = absurd (cc)
first-of (j ∷ free) i is = let same : j ≡ i = cc in ap (λ n. n ∷ free) same

finishable : (s : Stage) → may_finish s ≡ true → is_under_way s ≡ true
finishable (Taken f named) may = refl
finishable (Ending f why) may = refl
finishable _ may = absurd (true≢false (sym may))

new-stage : (irps : ℕ) (i : IrpId) → is_under_way (get_or (replicate irps Free) i.0 Spent) ≡ false
new-stage irps i = elim (cases_lt i.0 irps) [
  | inl low ↦ ap is_under_way (get_or-replicate irps i.0 Free Spent low)
  | inr past ↦ ap is_under_way (get_or_past (replicate irps Free) i.0 Spent (omega (arith, length-replicate irps Free)))
]

pub counted : (irps files : ℕ) (calls : List Call) → AreCalls irps files calls → IsCounted calls (after_all irps files calls)
counted irps files [] are = record { once = fresh-once irps files; count = λ i. omega (arith, ap bit (new-stage irps i)) }
counted irps files (Lists i f ∷ calls) are =
    let r = after_all irps files calls in
    let k = counted irps files calls are.1 in
    let is = first-of r.free i are.0 in
    let first = first-free r k.once i (drop 1 r.free) is in
    more (Lists i f) calls r i (Listed f) (drop 1 r.free) k (known-by is_free r.stages i refl first.0) first.1 (rest-else r i (drop 1 r.free) is)
    (omega (arith, ap bit (same_id-refl i), ap (λ s. bit (is_under_way s)) (is-free (stage_of r i) first.0)))
    (λ j apart. (other-id j i apart, refl))
counted irps files (Moves i s ∷ calls) are =
    let r = after_all irps files calls in
    let k = counted irps files calls are.1 in
    more (Moves i s) calls r i s r.free k (known-by is_under_way r.stages i refl are.0.0)
    (k.once i ∙ ap bit (not-free (stage_of r i) are.0.0 ∙ sym (not-free s are.0.1))) (λ j apart. refl)
    (omega (arith, ap bit are.0.0, ap bit are.0.1)) (λ j apart. (refl, refl))
counted irps files (Finishes i spent ∷ calls) are =
    let r = after_all irps files calls in
    let k = counted irps files calls are.1 in
    let way = finishable (stage_of r i) are.0 in
    more (Finishes i spent) calls r i (stage_after spent) (free_after spent i r.free) k (known-by is_under_way r.stages i refl way)
    (free-here spent i r.free (k.once i ∙ ap bit (not-free (stage_of r i) way))) (λ j apart. free-else spent i j r.free apart)
    (omega (arith, ap bit (same_id-refl i), ap bit way, ap bit (over-at-all spent))) (λ j apart. (refl, other-id j i apart))
