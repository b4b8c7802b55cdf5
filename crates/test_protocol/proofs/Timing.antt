-- No execution has calls that overlap, an event outside of its call, or a history that isn't in real time.
use Rattle.std.proofs.Common.{◌≡◌, ℕ, true, false, Some, None, List, [], ◌∷◌, ◌++◌, sym, ap, ◌∙◌, subst, refl, arith}
use Rattle.irp_core.specs.declared.ids.PassId.{PassId}
use Rattle.irp_core.specs.Steps.{same_pass}
use Rattle.csq_words.specs.declared.views.HistoryEntry.{HistoryEntry}
use Rattle.csq_words.specs.declared.views.Tick.{Tick}
use Rattle.csq_words.specs.Traces.{entries_in, IsTrace, MayCome}
use Rattle.csq_words.proofs.RealTime.{in_real_time}
use Rattle.test_protocol.specs.Excluded.{pass, inserted, found_none}
use Rattle.test_protocol.specs.Untimely.{IsNone, NoneIsInRealTime}

-- a beginning is none, if its last tick may not come
none_is : (x : Tick) (older : List Tick) → (MayCome x older → ⊥) → IsNone (x ∷ older)
none_is x older wrong newer is = wrong ((in_real_time 0 (newer ++ (x ∷ older)) is).each x newer older refl)

-- two passes of different numbers aren't one
apart : (p q : ℕ) → Some (pass p) ≡ Some (pass q) → p ≡ q
apart p q e = let same : pass p ≡ pass q = cc in ap (λ (x : PassId). x.0) same

pub none_is_in_real_time : NoneIsInRealTime
unfolding same_pass
none_is_in_real_time = record {
  two_inside = none_is _ _ (λ may. absurd (cc));
  left_by_another = none_is _ _ (λ may. let e = apart 1 2 may.0 in absurd (omega (arith, e)));
  left_twice = none_is _ _ (λ may. let e = may.0 in absurd (cc));
  left_inside = none_is _ _ (λ may. let e : true ≡ false = may.1 in absurd (cc));
  made_outside = none_is _ _ (λ may. let e = may.0 refl in absurd (cc));
  made_by_another = none_is _ _ (λ may. let e = apart 1 2 (may.0 refl) in absurd (omega (arith, e)));
  made_in_a_call = none_is _ _ (λ may. may.1 refl refl);
  taken_in_a_call = none_is _ _ (λ may. may.1 refl refl);
  said_late = none_is _ _ (λ may. absurd (cc));
  said_by_another = none_is _ _ (λ may. let e = apart 2 1 may in absurd (omega (arith, e)));
  turned = λ trace newer between older is at first then whole.
      let order = (in_real_time 0 trace is).order (pass 1) (pass 2) newer between older at in
      let all : found_none 2 ∷ (entries_in between ++ (inserted 1 0 ∷ [])) ≡ inserted 1 0 ∷ found_none 2 ∷ [] = (λ k. sym then k ++ (entries_in between ++ sym first k)) ∙ (sym order ∙ whole) in
      let same : found_none 2 ≡ inserted 1 0 = cc in
      let e : 2 ≡ 1 = ap (λ (x : HistoryEntry). x.pass.0) same in absurd (omega (arith, e));
}
