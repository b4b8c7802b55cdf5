-- The tree of times: what a write from a leaf up leaves true, and that node 1 is the least.
use Rattle.std.proofs.Common.{◌≡◌, ◌≢◌, ◌<◌, ◌≤◌, ◌^◌, inl, inr, ◌+◌, ◌-◌, ◌*◌, ◌/◌, ℕ, zero, suc, List, ◌∷◌, replicate, length, get_or, set, drop, map, unwrap_or, Option, Some, None, refl, sym, ap, ◌∙◌, arith}
use Rattle.std.specs.Option.{ForSome}
use Rattle.std.proofs.lemmas.Bool.{cases_eq, cases_lt, lt-ltb, le-ltb}
use Rattle.std.proofs.lemmas.List.{get_or-drop, map-set, get_or_default, get_or_past, set-get_or, drop-replicate}
use Rattle.std.proofs.Math.ListN.{get_or-map}
use Rattle.irp_core.specs.declared.ids.IrpId.{IrpId}
use Rattle.request_table.specs.declared.dues.TheConstants.{NEVER}
use Rattle.request_table.specs.Times.{due_in, due_at, dues_of, IsLeast, IsTree, IsFirstDue, NoneIsDue}

-- a tree, but for the node above one
pub record IsTreeBut (leaves : ℕ) (times : List ℕ) (below : ℕ) : Type 0 where
  pub some : 1 ≤ leaves
  pub few : leaves < 2 ^ 32
  pub size : length times ≡ leaves + leaves
  pub least : (k : ℕ) → 1 ≤ k → k < leaves → k ≢ below / 2 → IsLeast times k

-- node 1 is at most each node
root-by : (fuel leaves : ℕ) (times : List ℕ) → IsTree leaves times → (k : ℕ) → k ≤ fuel → 1 ≤ k → k < leaves + leaves → get_or times 1 0 ≤ get_or times k 0
root-by zero leaves times tree k few low high = absurd (omega arith)
root-by (suc fuel) leaves times tree k few low high = elim (cases_eq k 1) [
  | inl here ↦ rw here (omega arith)
  | inr there ↦
      let above = root-by fuel leaves times tree (k / 2) (omega arith) (omega arith) (omega arith) in
      let least : IsLeast times (k / 2) = tree.least (k / 2) (omega arith) (omega arith) in
      elim (cases_eq k (2 * (k / 2))) [
        | inl even ↦ omega (arith, ap (λ j. get_or times j 0) even)
        | inr odd ↦ let last : k ≡ 2 * (k / 2) + 1 = omega arith in omega (arith, ap (λ j. get_or times j 0) last)
      ]
]

pub root-le : (leaves : ℕ) (times : List ℕ) → IsTree leaves times → (k : ℕ) → 1 ≤ k → k < leaves + leaves → get_or times 1 0 ≤ get_or times k 0
root-le leaves times tree k low high = root-by k leaves times tree k (omega arith) low high

-- when a number is due, by its leaf
due-leaf : (leaves : ℕ) (times : List ℕ) (i : IrpId) → due_in (dues_of leaves times) i ≡ due_at (get_or times (leaves + i.0) NEVER)
due-leaf leaves times i = get_or-map due_at (drop leaves times) i.0 NEVER ∙ ap due_at (get_or-drop leaves times i.0 NEVER)

due_at-before : (t : ℕ) → t < NEVER → due_at t ≡ Some t
due_at-before t before = rw (lt-ltb t NEVER before) refl

due_at-never : (t : ℕ) → NEVER ≤ t → due_at t ≡ None
due_at-never t never = rw (le-ltb t NEVER never) refl

-- a time that is due is that of a leaf
leaf-of : (leaves : ℕ) (times : List ℕ) (i : IrpId) (t : ℕ) → length times ≡ leaves + leaves → due_in (dues_of leaves times) i ≡ Some t → (leaves + i.0 < leaves + leaves) × (get_or times (leaves + i.0) 0 ≡ t)
leaf-of leaves times i t size is = elim (cases_lt (leaves + i.0) (length times)) [
  | inl within ↦ elim (cases_lt (get_or times (leaves + i.0) NEVER) NEVER) [
    | inl before ↦
        (let same : Some (get_or times (leaves + i.0) NEVER) ≡ Some t = sym (due_at-before _ before) ∙ sym (due-leaf leaves times i) ∙ is in
        (omega arith, get_or_default times (leaves + i.0) 0 NEVER within ∙ cc))
    | inr never ↦ (let neither : None ≡ Some t = sym (due_at-never _ never) ∙ sym (due-leaf leaves times i) ∙ is in absurd (cc))
  ]
  | inr past ↦
      (let neither : None ≡ Some t = sym (due_at-never NEVER (omega arith)) ∙ ap due_at (sym (get_or_past times (leaves + i.0) NEVER past)) ∙ sym (due-leaf leaves times i) ∙ is in absurd (cc))
]

-- the leaf with the time of node 1 is of a number that is due first
pub first-due : (leaves leaf t : ℕ) (times : List ℕ) → IsTree leaves times → leaves ≤ leaf → leaf < length times → get_or times leaf 0 ≡ t → get_or times 1 0 ≡ t → t < NEVER → IsFirstDue (dues_of leaves times) (record { 0 = leaf - leaves }) t
first-due leaves leaf t times tree above within is least before = record {
  due = due-leaf leaves times (record { 0 = leaf - leaves }) ∙ ap (λ k. due_at (get_or times k NEVER)) at ∙ ap due_at (get_or_default times leaf NEVER 0 within ∙ is) ∙ due_at-before t before;
  first = λ j s due. (let own = leaf-of leaves times j s tree.size due in omega (arith, root-le leaves times tree (leaves + j.0) (omega (arith, tree.some)) own.0, own.1));
}
  where
    at : leaves + (leaf - leaves) ≡ leaf
    at = omega arith

-- if node 1 is never due, none is
pub none-due : (leaves : ℕ) (times : List ℕ) → IsTree leaves times → NEVER ≤ get_or times 1 0 → NoneIsDue (dues_of leaves times)
none-due leaves times tree never i = due-leaf leaves times i ∙ elim (cases_lt (leaves + i.0) (length times)) [
  | inl within ↦ due_at-never _ (omega (arith, get_or_default times (leaves + i.0) NEVER 0 within, root-le leaves times tree (leaves + i.0) (omega (arith, tree.some)) (omega (arith, tree.size))))
  | inr past ↦ ap due_at (get_or_past times (leaves + i.0) NEVER past) ∙ due_at-never NEVER (omega arith)
]

due_at-stored : (d : Option ℕ) → ForSome d (λ t. t < NEVER) → due_at (unwrap_or d NEVER) ≡ d
due_at-stored None before = due_at-never NEVER (omega arith)
due_at-stored (Some t) before = due_at-before t (before t refl)

-- a write of a leaf is one of when its number is due
pub due-written : (leaves : ℕ) (old new : List ℕ) (i : IrpId) (d : Option ℕ) → ForSome d (λ t. t < NEVER) → drop leaves new ≡ set (drop leaves old) i.0 (unwrap_or d NEVER) → dues_of leaves new ≡ set (dues_of leaves old) i.0 d
due-written leaves old new i d before is = ap (map due_at) is ∙ map-set due_at (drop leaves old) i.0 (unwrap_or d NEVER) ∙ ap (set (dues_of leaves old) i.0) (due_at-stored d before)

-- and of what stands there already none is needed
pub due-same : (leaves : ℕ) (times : List ℕ) (i : IrpId) (d : Option ℕ) → ForSome d (λ t. t < NEVER) → leaves + i.0 < length times → get_or times (leaves + i.0) 0 ≡ unwrap_or d NEVER → dues_of leaves times ≡ set (dues_of leaves times) i.0 d
due-same leaves times i d before within is =
    due-written leaves times times i d before
    (sym (set-get_or (drop leaves times) i.0 0) ∙ ap (set (drop leaves times) i.0) (get_or-drop leaves times i.0 0 ∙ is))

map-copies : (n : ℕ) → map due_at (replicate n NEVER) ≡ replicate n None
map-copies zero = refl
map-copies (suc n) = ap (λ ds. None ∷ ds) (map-copies n)

-- if no leaf has a time, none is due
pub none-yet : (leaves : ℕ) (times : List ℕ) → times ≡ replicate (2 * leaves) NEVER → dues_of leaves times ≡ replicate leaves None
none-yet leaves times is = ap (λ ts. map due_at (drop leaves ts)) is ∙ ap (map due_at) (drop-replicate leaves (2 * leaves) NEVER) ∙ (let rest : 2 * leaves - leaves ≡ leaves = omega arith in ap (λ n. map due_at (replicate n NEVER)) rest) ∙ map-copies leaves
