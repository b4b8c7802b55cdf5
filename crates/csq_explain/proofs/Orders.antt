-- An order after one step more.
use Rattle.std.proofs.Common.{◌≡◌, ℕ, ◌+◌, ◌<◌, ◌≤◌, Bool, true, false, cond, List, [], ◌∷◌, ◌++◌, get_or, set, length, take, Option, Some, None, refl, ap, sym, ◌∙◌, subst, append-nil, append_assoc}
use Rattle.std.specs.Option.{option_and_then}
use Rattle.std.proofs.lemmas.List.{length-set, take_all, take_more}
use Rattle.irp_core.specs.declared.ids.{IrpId.{IrpId}, IrpLife.{IrpLife}}
use Rattle.irp_core.specs.declared.step.{Kind.{Kind, TheVariants.{Arm, Test, Disarm, End, Flag, Take, Out, Done, Renew, Rearm}}}
use Rattle.irp_core.specs.Standings.{names}
use Rattle.irp_core.specs.Steps.{name_of, number, same_id, same_irp}
use Rattle.irp_core.specs.Runs.{OfIrp}
use Rattle.irp_core.proofs.Names.{other_irp, same_id-eq, same_some}
use Rattle.csq_explain.specs.declared.harms.HarmAt.{HarmAt}
use Rattle.csq_explain.specs.declared.irp_record.IrpRecord.{IrpRecord}
use Rattle.csq_explain.specs.declared.line_steps.LineStep.{LineStep}
use Rattle.csq_explain.specs.declared.order.Order.{Order}
use Rattle.csq_explain.specs.Harms.{end_harm, end_harms, harm_at, harm_list, step_harms}
use Rattle.csq_explain.specs.IrpRecords.{moved, record_after, record_with}
use Rattle.csq_explain.specs.LineSteps.{made_in}
use Rattle.csq_explain.specs.Orders.{OrderStands}
use Rattle.csq_explain.specs.WordValues.{words_after}
use Rattle.csq_explain.proofs.HarmLaws.{ends_append}
use Rattle.csq_explain.proofs.Records.{irp_recorded, words_recorded}
use Rattle.csq_explain.proofs.Tables.{get-table, set-table, table-same}

-- what is known of each number
abbrev at : List LineStep → ℕ → IrpRecord
at V n = record_after V (record { 0 = n })

pub words_there : {A : Type 0} (order : Order A) (irps : ℕ) (V : List LineStep) (n : IrpId) (d : IrpRecord) → n.0 < irps → OrderStands order irps V → (get_or order.records.items n.0 d).words ≡ words_after (made_in V) n
words_there order irps V n d lt stands =
    ap (λ rs. (get_or rs n.0 d).words) stands.known ∙ ap (λ (r : IrpRecord). r.words) (get-table (at V) irps n.0 d lt) ∙ words_recorded V n

-- a step of another IRP changes nothing
other_names : (i j : IrpLife) (k : Kind) → name_of k ≡ Some i → same_irp i j ≡ false → names j k ≡ false
other_names i j (Arm l) e f = ap (λ (x : IrpLife). same_irp x j) (same_some l i e) ∙ f
other_names i j (Test l) e f = ap (λ (x : IrpLife). same_irp x j) (same_some l i e) ∙ f
other_names i j (Disarm l) e f = ap (λ (x : IrpLife). same_irp x j) (same_some l i e) ∙ f
other_names i j End e f = refl
other_names i j (Flag l) e f = ap (λ (x : IrpLife). same_irp x j) (same_some l i e) ∙ f
other_names i j (Take l) e f = ap (λ (x : IrpLife). same_irp x j) (same_some l i e) ∙ f
other_names i j (Out l) e f = ap (λ (x : IrpLife). same_irp x j) (same_some l i e) ∙ f
other_names i j (Done l) e f = ap (λ (x : IrpLife). same_irp x j) (same_some l i e) ∙ f
other_names i j (Renew l) e f = ap (λ (x : IrpLife). same_irp x j) (same_some l i e) ∙ f
other_names i j (Rearm l) e f = ap (λ (x : IrpLife). same_irp x j) (same_some l i e) ∙ f

pub known_named : (irps : ℕ) (k : Kind) (i : IrpLife) → name_of k ≡ Some i → OfIrp (λ j. number j < irps) k → number i < irps
known_named irps (Arm l) i e h = subst (λ j. number j < irps) (same_some l i e) h
known_named irps (Test l) i e h = subst (λ j. number j < irps) (same_some l i e) h
known_named irps (Disarm l) i e h = subst (λ j. number j < irps) (same_some l i e) h
known_named irps End i e h = absurd cc
known_named irps (Flag l) i e h = subst (λ j. number j < irps) (same_some l i e) h
known_named irps (Take l) i e h = subst (λ j. number j < irps) (same_some l i e) h
known_named irps (Out l) i e h = subst (λ j. number j < irps) (same_some l i e) h
known_named irps (Done l) i e h = subst (λ j. number j < irps) (same_some l i e) h
known_named irps (Renew l) i e h = subst (λ j. number j < irps) (same_some l i e) h
known_named irps (Rearm l) i e h = subst (λ j. number j < irps) (same_some l i e) h

no_names : (j : IrpLife) (k : Kind) → name_of k ≡ None → names j k ≡ false
no_names j End e = refl
no_names j k e = absurd cc

not_same : (n m : IrpId) → (n.0 ≡ m.0 → ⊥) → (b : Bool) → same_id n m ≡ b → b ≡ false
not_same n m ne false e = refl
not_same n m ne true e = absurd (ne (ap (λ (x : IrpId). x.0) (same_id-eq n m e)))

kept_with : (r : IrpRecord) (x : LineStep) → names r.words.name x.made.kind ≡ false → record_with r x ≡ r
kept_with r x e = ap (λ b. cond b (moved r x x.made.kind) r) e

module _ {A : Type 0} (order : Order A) (irps : ℕ) (V : List LineStep) (x : LineStep) (stands : OrderStands order irps V) where
  -- one that names no IRP
  pub stands_unnamed : name_of x.made.kind ≡ None → OrderStands order irps (x ∷ V)
  stands_unnamed e =
      let harm : Option IrpLife → Option HarmAt = λ o. option_and_then (λ (i : IrpLife). harm_at (record_after V i.irp) x) o in
      record {
        count = stands.count;
        known = stands.known ∙ table-same (at V) (at (x ∷ V)) irps (λ k lt. sym (kept_with (at V k) x (no_names (at V k).words.name x.made.kind e)));
        harms = stands.harms ∙ sym (ap (λ o. step_harms V ++ harm_list o) (ap harm e) ∙ append-nil (step_harms V));
      }

  -- one that names IRP n
  module _ (i : IrpLife) (d : IrpRecord) (named : name_of x.made.kind ≡ Some i) (lt : number i < irps) where
    read : get_or order.records.items (number i) d ≡ record_after V i.irp
    read = ap (λ rs. get_or rs (number i) d) stands.known ∙ get-table (at V) irps (number i) d lt

    others : (k : ℕ) → (k ≡ number i → ⊥) → at V k ≡ at (x ∷ V) k
    others k ne =
        let j = (at V k).words.name in
        let irp : j.irp ≡ record { 0 = k } = irp_recorded V (record { 0 = k }) in
        let apart : same_id i.irp j.irp ≡ false = not_same i.irp j.irp (λ e. ne (sym (e ∙ ap (λ (n : IrpId). n.0) irp))) (same_id i.irp j.irp) refl in
        sym (kept_with (at V k) x (other_names i j x.made.kind named (other_irp i j apart)))

    pub stands_named : (new : Order A) → new.records.items ≡ set order.records.items (number i) (record_with (get_or order.records.items (number i) d) x)
        → new.harms.items ≡ order.harms.items ++ harm_list (harm_at (get_or order.records.items (number i) d) x) → OrderStands new irps (x ∷ V)
    stands_named new written harmed =
        let set_at : List IrpRecord → IrpRecord → List IrpRecord = λ rs r. set rs (number i) (record_with r x) in
        let told : Option IrpLife → Option HarmAt = λ o. option_and_then (λ (j : IrpLife). harm_at (record_after V j.irp) x) o in
        record {
          count = ap length written ∙ length-set order.records.items (number i) _ ∙ stands.count;
          known = written ∙ ap (set_at order.records.items) read ∙ ap (λ rs. set_at rs (record_after V i.irp)) stands.known
              ∙ set-table (at V) (at (x ∷ V)) irps (number i) (record_with (record_after V i.irp) x) lt refl others;
          harms = harmed ∙ ap (λ r. order.harms.items ++ harm_list (harm_at r x)) read ∙ ap (λ hs. hs ++ harm_list (harm_at (record_after V i.irp) x)) stands.harms
              ∙ sym (ap (λ o. step_harms V ++ harm_list o) (ap told named));
        }

-- what goes wrong in the end with one IRP more
pub ends_more : (rs : List IrpRecord) (k : ℕ) (d : IrpRecord) (found more : List HarmAt) (first : List HarmAt) → k < length rs → found ≡ first ++ end_harms (take k rs) → more ≡ found ++ harm_list (end_harm (get_or rs k d))
    → more ≡ first ++ end_harms (take (k + 1) rs)
ends_more rs k d found more first lt was is =
    let last = harm_list (end_harm (get_or rs k d)) in
    is ∙ ap (λ hs. hs ++ last) was ∙ append_assoc first (end_harms (take k rs)) last
    ∙ sym (ap (λ ys. first ++ end_harms ys) (take_more rs k d lt) ∙ ap (λ hs. first ++ hs) (ends_append (take k rs) (get_or rs k d ∷ []) ∙ ap (λ hs. end_harms (take k rs) ++ hs) (append-nil last)))

-- and with all of them
pub ends_all : (rs : List IrpRecord) (k : ℕ) (found first : List HarmAt) → length rs ≤ k → found ≡ first ++ end_harms (take k rs) → found ≡ first ++ end_harms rs
ends_all rs k found first le was = was ∙ ap (λ ys. first ++ end_harms ys) (take_all k rs le)
