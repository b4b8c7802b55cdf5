-- No two lines of a pass are in one lane.
use Rattle.std.proofs.Common.{◌≡◌, ◌≢◌, ◌⊎◌, inl, inr, ℕ, zero, suc, ◌+◌, ◌<◌, ◌≤◌, ◌-◌, Bool, true, false, cond, List, [], ◌∷◌, length, get_or, Option, Some, None, refl, ap, sym, ◌∙◌, subst, arith, add-zero, ⊎_elim}
use Rattle.std.proofs.lemmas.Bool.{cases_lt}
use Rattle.std.proofs.lemmas.List.Folds.{list_any_at}
use Rattle.csq_draw.proofs.Imports.{option_map_or, IrpId, IrpLife, PassId, Kind, Made, same_id, name_of, same_id-eq, same_pass-eq, same_pass-refl, get-table, length-table, Owner, is_of_irp, owner_by, owner_after, owner, owners}
use Rattle.csq_draw.specs.declared.owners.Having.{Having}
use Rattle.csq_draw.specs.Lanes.{is_in_lane, is_taken, first_free, free_lane, lane_for}

-- the lanes that a pass has free
module _ (os : List (Option Owner)) (p : PassId) where
  -- this lane is free, or the last
  abbrev IsFirst : ℕ → ℕ → Type 0
  IsFirst lane last = (is_taken os p lane ≡ false) ⊎ (lane ≡ last)

  first_is_free : (more lane : ℕ) → IsFirst (first_free os p more lane) (lane + more)
  first_is_free zero lane = inr (sym (add-zero lane))
  first_is_free (suc more) lane = go (is_taken os p lane) refl (first_is_free more (lane + 1))
    where
      go : (b : Bool) → is_taken os p lane ≡ b → IsFirst (first_free os p more (lane + 1)) (lane + 1 + more) → IsFirst (cond b (first_free os p more (lane + 1)) lane) (lane + suc more)
      go true e (inl free) = inl free
      go true e (inr behind) = inr (omega (arith, behind))
      go false e h = inl e

  -- one more lane was looked at, and is taken
  pub first_after : (k lane : ℕ) → lane < k → is_taken os p lane ≡ true → first_free os p (k - lane) lane ≡ first_free os p (k - (lane + 1)) (lane + 1)
  first_after k lane lt taken =
      let more : k - lane ≡ suc (k - (lane + 1)) = omega (arith, lt) in
      ap (λ n. first_free os p n lane) more ∙ ap (λ b. cond b (first_free os p (k - (lane + 1)) (lane + 1)) lane) taken

  -- and is free
  pub first_here : (k lane : ℕ) → lane < k → is_taken os p lane ≡ false → first_free os p (k - lane) lane ≡ lane
  first_here k lane lt free =
      let more : k - lane ≡ suc (k - (lane + 1)) = omega (arith, lt) in
      ap (λ n. first_free os p n lane) more ∙ ap (λ b. cond b (first_free os p (k - (lane + 1)) (lane + 1)) lane) free

  -- all were looked at
  pub first_past : (k lane : ℕ) → lane ≡ k → k ≡ first_free os p (k - lane) lane
  first_past k lane past =
      let none : k - lane ≡ 0 = omega (arith, past) in
      sym past ∙ sym (ap (λ n. first_free os p n lane) none)

  free_is : IsFirst (free_lane os p) 8
  unfolding free_lane
  free_is = first_is_free 8 0

  -- each lane before the first free one is taken
  taken_before : (more lane l : ℕ) → lane ≤ l → l < first_free os p more lane → is_taken os p l ≡ true
  taken_before zero lane l le lt = absurd (omega (arith, le, lt))
  taken_before (suc more) lane l le lt = go (is_taken os p lane) refl lt (taken_before more (lane + 1) l)
    where
      go : (b : Bool) → is_taken os p lane ≡ b → l < cond b (first_free os p more (lane + 1)) lane → (lane + 1 ≤ l → l < first_free os p more (lane + 1) → is_taken os p l ≡ true) → is_taken os p l ≡ true
      go true e lt' later = ⊎_elim (λ h. let same : lane ≡ l = omega (arith, le, h) in subst (λ k. is_taken os p k ≡ true) same e) (λ h. later h lt') (cases_lt l (lane + 1))
      go false e lt' later = absurd (omega (arith, le, lt'))

  all_taken : free_lane os p ≡ 8 → (l : ℕ) → l < 8 → is_taken os p l ≡ true
  unfolding free_lane
  all_taken last l lt = taken_before 8 0 l (omega arith) (subst (λ n. l < n) (sym last) lt)

  -- a lane is that which p had the IRP in, or a free one
  abbrev IsKept : Option Owner → ℕ → Type 0
  IsKept before lane = (o : Owner) × (before ≡ Some o) × (o.pass ≡ p) × (lane ≡ o.lane)

  lane_came : (before : Option Owner) → IsKept before (lane_for os p before) ⊎ (lane_for os p before ≡ free_lane os p)
  lane_came before = grind (arith, same_pass-eq)

abbrev pass_of : PassId → Option Owner → PassId
pass_of q (Some o) = o.pass
pass_of q None = q

abbrev lane_of : Option Owner → ℕ
lane_of (Some o) = o.lane
lane_of None = 0

abbrev claimed : IrpLife → Having → PassId → ℕ → ℕ → Option Owner
claimed i having p row lane = Some (record { name = i; pass = p; having = having; row = row; lane = lane })

-- a pass that has an IRP after a step had it before, or is the pass of the step and has it in this lane
module _ (found : ℕ) (p : PassId) (row lane : ℕ) (before : Option Owner) (a : Owner) where
  abbrev Came : Type 0
  Came = (before ≡ Some a) ⊎ ((a.pass ≡ p) × (a.lane ≡ lane))

  by_claim : (i : IrpLife) (having : Having) (b : Bool) → cond b (claimed i having p row lane) before ≡ Some a → Came
  by_claim i having b e = grind arith

  came : (k : Kind) → owner_by k found p row lane before ≡ Some a → Came
  came k e = grind arith

-- a step names one IRP
named_one : (k : Kind) (n m : IrpId) → is_of_irp n k ≡ true → is_of_irp m k ≡ true → n ≡ m
named_one k n m a b = go (name_of k) a b
  where
    go : (o : Option IrpLife) → option_map_or (λ i. same_id i.irp n) o false ≡ true → option_map_or (λ i. same_id i.irp m) o false ≡ true → n ≡ m
    go (Some i) h l = sym (same_id-eq i.irp n h) ∙ same_id-eq i.irp m l
    go None h l = absurd (cc h)

-- an IRP that p has in a lane takes it
in_lane : (p : PassId) (lane : ℕ) (o : Owner) → o.pass ≡ p → o.lane ≡ lane → is_in_lane p lane (Some o) ≡ true
in_lane p lane o his same = grind (arith, same_pass-refl)

module _ (irps : ℕ) where
  taken_by : (E : List Made) (k : IrpId) (p : PassId) (lane : ℕ) (b : Owner) → k.0 < irps → owner irps E k ≡ Some b → b.pass ≡ p → b.lane ≡ lane → is_taken (owners irps E) p lane ≡ true
  taken_by E k p lane b lt is his same =
      let of : ℕ → Option Owner = λ n. owner irps E (record { 0 = n }) in
      let here : get_or (owners irps E) k.0 None ≡ Some b = get-table of irps k.0 None lt ∙ is in
      list_any_at (is_in_lane p lane) (owners irps E) k.0 None (omega (arith, lt, length-table of irps)) (ap (is_in_lane p lane) here ∙ in_lane p lane b his same)

  abbrev Apart : List Made → Type 0
  Apart E = (n k : IrpId) (a b : Owner) → n.0 < irps → k.0 < irps → n ≢ k → owner irps E n ≡ Some a → owner irps E k ≡ Some b → a.pass ≡ b.pass → a.lane ≡ b.lane → a.lane ≡ 8

  -- of an IRP that a step names, and one that it doesn't
  module _ (m : Made) (E : List Made) (apart : Apart E) (n k : IrpId) (a b : Owner) (nl : n.0 < irps) (kl : k.0 < irps) (ne : n ≢ k)
      (is : owner_after (owners irps E) (owner irps E n) m (length E) ≡ Some a) (other : owner irps E k ≡ Some b) (pass : a.pass ≡ b.pass) (lane : a.lane ≡ b.lane) where
    abbrev os : List (Option Owner)
    os = owners irps E

    in_free : a.pass ≡ m.pass → a.lane ≡ free_lane os m.pass → IsFirst os m.pass (free_lane os m.pass) 8 → a.lane ≡ 8
    in_free his at (inl free) = let taken = taken_by E k m.pass (free_lane os m.pass) b kl other (sym pass ∙ his) (sym lane ∙ at) in absurd (cc (sym free ∙ taken))
    in_free his at (inr last) = at ∙ last

    in_lane_for : a.pass ≡ m.pass → a.lane ≡ lane_for os m.pass (owner irps E n)
        → IsKept os m.pass (owner irps E n) (lane_for os m.pass (owner irps E n)) ⊎ (lane_for os m.pass (owner irps E n) ≡ free_lane os m.pass) → a.lane ≡ 8
    in_lane_for his at (inl (o, had, whose, same)) = at ∙ same ∙ apart n k o b nl kl ne had other (whose ∙ sym his ∙ pass) (sym same ∙ sym at ∙ lane)
    in_lane_for his at (inr same) = in_free his (at ∙ same) (free_is os m.pass)

    one_named : Came m.found m.pass (length E) (lane_for os m.pass (owner irps E n)) (owner irps E n) a → a.lane ≡ 8
    one_named (inl kept) = apart n k a b nl kl ne kept other pass lane
    one_named (inr (his, at)) = in_lane_for his at (lane_came os m.pass (owner irps E n))

    after_one : a.lane ≡ 8
    after_one = one_named (came m.found m.pass (length E) (lane_for os m.pass (owner irps E n)) (owner irps E n) a m.kind is)

  -- who has IRP x after a step, which names it or doesn't
  abbrev after : Made → List Made → IrpId → Bool → Option Owner
  after m E x names = cond names (owner_after (owners irps E) (owner irps E x) m (length E)) (owner irps E x)

  apart_more : (m : Made) (E : List Made) → Apart E → Apart (m ∷ E)
  apart_more m E apart n k a b nl kl ne = go (is_of_irp n m.kind) refl (is_of_irp k m.kind) refl
    where
      go : (t : Bool) → is_of_irp n m.kind ≡ t → (u : Bool) → is_of_irp k m.kind ≡ u → after m E n t ≡ Some a → after m E k u ≡ Some b → a.pass ≡ b.pass → a.lane ≡ b.lane → a.lane ≡ 8
      go true x true y ea eb pass lane = absurd (ne (named_one m.kind n k x y))
      go true x false y ea eb pass lane = after_one m E apart n k a b nl kl ne ea eb pass lane
      go false x true y ea eb pass lane = lane ∙ after_one m E apart k n b a kl nl (λ e. ne (sym e)) eb ea (sym pass) (sym lane)
      go false x false y ea eb pass lane = apart n k a b nl kl ne ea eb pass lane

  pub lines_apart : (E : List Made) → Apart E
  lines_apart [] = λ n k a b nl kl ne ea eb pass lane. absurd (cc ea)
  lines_apart (m ∷ E) = apart_more m E (lines_apart E)

  -- one that a pass has in the ninth lane was there, or no other lane was free
  module _ (m : Made) (E : List Made) (n : IrpId) (a : Owner) (at : a.lane ≡ 8) where
    abbrev IsLast : Type 0
    IsLast = (is_in_lane a.pass 8 (owner irps E n) ≡ true) ⊎ ((l : ℕ) → l < 8 → is_taken (owners irps E) a.pass l ≡ true)

    was_there : (o : Owner) → owner irps E n ≡ Some o → o.pass ≡ a.pass → o.lane ≡ 8 → IsLast
    was_there o had his lane = inl (ap (is_in_lane a.pass 8) had ∙ in_lane a.pass 8 o his lane)

    last_for : a.pass ≡ m.pass → a.lane ≡ lane_for (owners irps E) m.pass (owner irps E n)
        → IsKept (owners irps E) m.pass (owner irps E n) (lane_for (owners irps E) m.pass (owner irps E n)) ⊎ (lane_for (owners irps E) m.pass (owner irps E n) ≡ free_lane (owners irps E) m.pass) → IsLast
    last_for his lane (inl (o, had, whose, same)) = was_there o had (whose ∙ sym his) (sym same ∙ sym lane ∙ at)
    last_for his lane (inr same) = inr (λ l lt. subst (λ q. is_taken (owners irps E) q l ≡ true) (sym his) (all_taken (owners irps E) m.pass (sym same ∙ sym lane ∙ at) l lt))

    last_named : Came m.found m.pass (length E) (lane_for (owners irps E) m.pass (owner irps E n)) (owner irps E n) a → IsLast
    last_named (inl kept) = was_there a kept refl at
    last_named (inr (his, lane)) = last_for his lane (lane_came (owners irps E) m.pass (owner irps E n))

    last_after : (t : Bool) → after m E n t ≡ Some a → IsLast
    last_after true e = last_named (came m.found m.pass (length E) (lane_for (owners irps E) m.pass (owner irps E n)) (owner irps E n) a m.kind e)
    last_after false e = was_there a e refl at

  pub ninth_last : (E : List Made) (m : Made) (n : IrpId) (a : Owner) → owner irps (m ∷ E) n ≡ Some a → (at : a.lane ≡ 8) → IsLast m E n a at
  ninth_last E m n a e at = last_after m E n a at (is_of_irp n m.kind) e
