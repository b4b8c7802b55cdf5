-- The closing lines of a script.
use Rattle.std.proofs.Common.{◌≡◌, ℕ, zero, suc, ◌+◌, ◌<◌, Bool, true, false, cond, List, [], ◌∷◌, ◌++◌, map, filter, take, length, get_or, Option, Some, None, refl, ap, sym, ◌∙◌, arith, append_assoc, append-nil, add-one, codes}
use Rattle.csq_replay.proofs.Imports.{take_more, filter-append, IrpId, present, Size, size_of, Listing, Queued, Limits, plain, Script, present_of, Keeping, Keeps, irp_text, Entry, Any, first_match, rest_after, is_distinct, numbers, irps_below, is_kept, listed_irps, kept_irps, AreLeft, left_lines, closing_lines}
use Rattle.csq_replay.proofs.Going.{present_is}
use Rattle.csq_list.proofs.Finding.{found-first, nothing-left}
use Rattle.csq_replay.specs.declared.script.remains.Kept.{Kept}
use Rattle.csq_replay.specs.declared.script.remains.Kept.TheVariants.{Held}

abbrev irps_of : List Entry → List IrpId
irps_of es = map (λ (e : Entry). e.irp) es

-- one more IRP was noted of the list
pub listed_more : (i : IrpId) (after : Option IrpId) (es : List Entry) (old new all : List IrpId) → is_distinct es ≡ true → first_match Any (rest_after after es) ≡ Some i
    → new ≡ old ++ i ∷ [] → old ++ map (λ (e : Entry). e.irp) (rest_after after es) ≡ all → new ++ map (λ (e : Entry). e.irp) (rest_after (Some i) es) ≡ all
listed_more i after es old new all distinct found pushed noted =
    let (e, is, rest) = found-first i after es distinct found in
    ap (λ t. t ++ irps_of (rest_after (Some i) es)) pushed
    ∙ append_assoc old (i ∷ []) (irps_of (rest_after (Some i) es))
    ∙ ap (λ (j : IrpId). old ++ j ∷ irps_of (rest_after (Some i) es)) (sym is)
    ∙ ap (λ (xs : List Entry). old ++ irps_of xs) (sym rest)
    ∙ noted

-- the whole list was noted
pub listed_all : (after : Option IrpId) (es : List Entry) (old all : List IrpId) → first_match Any (rest_after after es) ≡ None → old ++ map (λ (e : Entry). e.irp) (rest_after after es) ≡ all → old ≡ all
listed_all after es old all none noted = sym (append-nil old) ∙ ap (λ (xs : List Entry). old ++ irps_of xs) (sym (nothing-left (rest_after after es) none)) ∙ noted

numbers-append : (is js : List IrpId) → numbers (is ++ js) ≡ numbers is ++ numbers js
numbers-append [] js = refl
numbers-append (i ∷ is) js = ap (λ t. (codes " " ++ irp_text i) ++ t) (numbers-append is js) ∙ sym (append_assoc (codes " " ++ irp_text i) (numbers is) (numbers js))

-- one more number was written
pub numbers_more : (irps : List IrpId) (k : ℕ) (d : IrpId) (first old new : List ℕ) → k < length irps → old ≡ first ++ numbers (take k irps)
    → new ≡ old ++ (codes " " ++ irp_text (get_or irps k d)) → new ≡ first ++ numbers (take (k + 1) irps)
numbers_more irps k d first old new lt reported written =
    written ∙ ap (λ t. t ++ (codes " " ++ irp_text (get_or irps k d))) reported ∙ append_assoc first (numbers (take k irps)) (codes " " ++ irp_text (get_or irps k d))
    ∙ ap (λ t. first ++ (numbers (take k irps) ++ t)) (sym (append-nil (codes " " ++ irp_text (get_or irps k d))))
    ∙ ap (λ t. first ++ t) (sym (numbers-append (take k irps) (get_or irps k d ∷ [])))
    ∙ ap (λ l. first ++ numbers l) (sym (take_more irps k d lt))

-- one more IRP was looked at
module _ (p : IrpId → Bool) (n : ℕ) (old : List IrpId) (kept : old ≡ filter p (irps_below n)) where
  last_is : (b : Bool) → p (record { 0 = n }) ≡ b → filter p (irps_below (n + 1)) ≡ filter p (irps_below n) ++ cond b (record { 0 = n } ∷ []) []
  last_is b is = ap (λ m. filter p (irps_below m)) (add-one n) ∙ filter-append p (irps_below n) (record { 0 = n } ∷ []) ∙ ap (λ c. filter p (irps_below n) ++ cond c (record { 0 = n } ∷ []) []) is

  pub kept_more : p (record { 0 = n }) ≡ true → (new : List IrpId) → new ≡ old ++ record { 0 = n } ∷ [] → new ≡ filter p (irps_below (n + 1))
  kept_more is new pushed = pushed ∙ ap (λ l. l ++ record { 0 = n } ∷ []) kept ∙ sym (last_is true is)

  pub kept_same : p (record { 0 = n }) ≡ false → old ≡ filter p (irps_below (n + 1))
  kept_same is = kept ∙ sym (append-nil (filter p (irps_below n))) ∙ sym (last_is false is)

-- the same IRPs pass two tests
pub filter_same : (p q : IrpId → Bool) (n : ℕ) → ((i : IrpId) → i.0 < n → p i ≡ q i) → filter p (irps_below n) ≡ filter q (irps_below n)
filter_same p q zero h = refl
filter_same p q (suc n) h =
    let last : IrpId = record { 0 = n } in
    let C : Bool → List IrpId = λ b. filter q (irps_below n) ++ cond b (record { 0 = n } ∷ []) [] in
    filter-append p (irps_below n) (record { 0 = n } ∷ [])
    ∙ ap (λ l. l ++ cond (p (record { 0 = n })) (record { 0 = n } ∷ []) []) (filter_same p q n (λ i lt. h i (omega arith)))
    ∙ ap C (h (record { 0 = n }) (omega arith))
    ∙ sym (filter-append q (irps_below n) (record { 0 = n } ∷ []))

pub irps_plain : (es : List Queued) → map (λ (e : Entry). e.irp) (map plain es) ≡ map (λ (e : Queued). e.irp.irp) es
irps_plain [] = refl
irps_plain (e ∷ es) = ap (λ l. e.irp.irp ∷ l) (irps_plain es)

pub grew_thrice : (first second third fourth a b c : List ℕ) → second ≡ first ++ a → third ≡ second ++ b → fourth ≡ third ++ c → fourth ≡ first ++ (a ++ (b ++ c))
grew_thrice first second third fourth a b c x y z =
    z ∙ ap (λ t. t ++ c) (y ∙ ap (λ t. t ++ b) x) ∙ append_assoc (first ++ a) b c ∙ append_assoc first a (b ++ c)

-- what is left is reported in the closing lines
pub same_lines : (l : Limits) (s : Script) (listed held owed : List IrpId) → AreLeft l s listed held owed → left_lines listed held owed ≡ closing_lines l s
same_lines l s listed held owed left =
    ap (λ x. left_lines x held owed) left.listed_are ∙ ap (λ x. left_lines (listed_irps s) x owed) left.held_are ∙ ap (left_lines (listed_irps s) (kept_irps l s Held)) left.owed_are

module _ (l : Limits) (kept : Keeping) (s : Script) (k : Keeps l kept s) where
  irps_are : (size_of kept.machine).irps ≡ l.irps
  irps_are = ap (λ (n : Size). n.irps) k.size

  pub listed_are : map (λ (e : Entry). e.irp) kept.listing.entries ≡ listed_irps s
  listed_are = ap (λ (x : Listing). map (λ (e : Entry). e.irp) x.entries) k.listing ∙ irps_plain s.queue.entries

  abbrev kept_now : Kept → IrpId → Bool
  kept_now so n = is_kept so s.run (present (size_of kept.machine).first s.run n)

  -- what is kept so, by the machine's present lives and by the queue's
  pub kept_are : (so : Kept) (irps : List IrpId)
      → irps ≡ filter (λ (n : IrpId). is_kept so s.run (present (size_of kept.machine).first s.run n)) (irps_below (size_of kept.machine).irps) → irps ≡ kept_irps l s so
  kept_are so irps noted =
      noted ∙ ap (λ n. filter (kept_now so) (irps_below n)) irps_are
      ∙ filter_same (kept_now so) (λ (n : IrpId). is_kept so s.run (present_of s n)) l.irps (λ n lt. ap (is_kept so s.run) (present_is l kept s k n))
