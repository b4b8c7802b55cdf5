-- What is known of the IRPs grows with the rows.
use Rattle.std.proofs.Common.{◌≡◌, ℕ, ◌+◌, ◌<◌, Bool, true, false, cond, List, [], ◌∷◌, ◌++◌, length, get_or, set, take, replicate, Option, Some, None, refl, ap, sym, ◌∙◌, subst, arith}
use Rattle.csq_draw.proofs.Imports.{take_more, option_map, option_map_or, IrpId, IrpLife, Size, Numbered, Row, is_of_irp, name_of, number, same_id, same_id-eq, same_id-refl, IrpNow, irp_after, irp_at, irps_after, irps_of, new_irp, with_irp}
use Rattle.irp_core.specs.declared.step.Made.{Made}
use Rattle.irp_core.specs.Lives.{present}
use Rattle.csq_replay.specs.Schedule.{run_of}
use Rattle.csq_explain.specs.declared.word_values.WordValues.{WordValues}
use Rattle.csq_explain.specs.WordValues.{words_of}
use Rattle.csq_draw.specs.Rows.{row_of, rows_of}
use Rattle.std.proofs.lemmas.List.{get_or-set_same, get_or-set_other, get_or-replicate, length-replicate, length-set}

-- one row more
pub after-last : (xs : List IrpNow) (rows : List Row) (row : Row) → irps_after xs (rows ++ row ∷ []) ≡ with_irp (irps_after xs rows) row
after-last xs [] row = refl
after-last xs (r ∷ rows) row = after-last (with_irp xs r) rows row

-- one more of these rows was noted
pub after-more : (xs : List IrpNow) (rows : List Row) (k : ℕ) (d : Row) → k < length rows → irps_after xs (take (k + 1) rows) ≡ with_irp (irps_after xs (take k rows)) (get_or rows k d)
after-more xs rows k d lt = ap (λ r. irps_after xs r) (take_more rows k d lt) ∙ after-last xs (take k rows) (get_or rows k d)

pub length-with : (xs : List IrpNow) (row : Row) → length (with_irp xs row) ≡ length xs
length-with xs row = go row.words
  where
    go : (o : Option WordValues) → length (option_map_or (λ (w : WordValues). set xs (number w.name) (irp_after (irp_at xs w.name.irp) row)) o xs) ≡ length xs
    go (Some w) = length-set xs (number w.name) (irp_after (irp_at xs w.name.irp) row)
    go None = refl

-- none is added
pub length-after : (xs : List IrpNow) (rows : List Row) → length (irps_after xs rows) ≡ length xs
length-after xs [] = refl
length-after xs (r ∷ rows) = length-after (with_irp xs r) rows ∙ length-with xs r

-- one row more was noted
pub after-step : (xs known known' : List IrpNow) (rows : List Row) (k : ℕ) (d : Row) → k < length rows → known' ≡ with_irp known (get_or rows k d) → known ≡ irps_after xs (take k rows) → known' ≡ irps_after xs (take (k + 1) rows)
after-step xs known known' rows k d lt is was = is ∙ ap (λ ys. with_irp ys (get_or rows k d)) was ∙ sym (after-more xs rows k d lt)

-- and with the steps
module _ (size : Size) where
  pub long : (W : List Numbered) → length (irps_of size W) ≡ size.irps
  long W = length-after (replicate size.irps new_irp) (rows_of size W) ∙ length-replicate size.irps new_irp

  -- what is known of IRP n after one step more
  module _ (w : Numbered) (W : List Numbered) (n : IrpId) (lt : n.0 < size.irps) where
    abbrev row : Row
    row = row_of size w W

    abbrev E : List Made
    E = run_of (w ∷ W)

    abbrev xs : List IrpNow
    xs = irps_of size W

    -- after a step of IRP i
    with_step : (i : IrpLife) (b : Bool) → same_id i.irp n ≡ b → get_or (set xs (number i) (irp_after (irp_at xs i.irp) row)) n.0 new_irp ≡ cond b (irp_after (irp_at xs n) row) (irp_at xs n)
    with_step i true same =
        let one : i.irp ≡ n = same_id-eq i.irp n same in
        let P : IrpId → Type 0 = λ m. get_or (set xs m.0 (irp_after (irp_at xs m) row)) n.0 new_irp ≡ irp_after (irp_at xs n) row in
        subst P (sym one) (get_or-set_same xs n.0 (irp_after (irp_at xs n) row) new_irp (omega (arith, lt, long W)))
    with_step i false other = get_or-set_other xs (number i) n.0 (irp_after (irp_at xs i.irp) row) new_irp (λ e. absurd (cc (other, same_number i e)))
      where
        same_number : (i : IrpLife) → n.0 ≡ number i → same_id i.irp n ≡ true
        same_number i e =
            let one : i.irp ≡ n = ap (λ k. let m : IrpId = record { 0 = k } in m) (sym e) in
            subst (λ (m : IrpId). same_id i.irp m ≡ true) one (same_id-refl i.irp)

    at_name : (o : Option IrpLife) → irp_at (option_map_or (λ (v : WordValues). set xs (number v.name) (irp_after (irp_at xs v.name.irp) row)) (option_map (λ i. words_of E (present size.first E i.irp)) o) xs) n ≡ cond (option_map_or (λ i. same_id i.irp n) o false) (irp_after (irp_at xs n) row) (irp_at xs n)
    at_name None = refl
    at_name (Some i) = with_step i (same_id i.irp n) refl

    pub at_next : irp_at (irps_of size (w ∷ W)) n ≡ cond (is_of_irp n w.step.kind) (irp_after (irp_at xs n) row) (irp_at xs n)
    at_next = ap (λ ys. irp_at ys n) (after-last (replicate size.irps new_irp) (rows_of size W) row) ∙ at_name (name_of w.step.kind)

  pub none_yet : (n : IrpId) → n.0 < size.irps → irp_at (irps_of size []) n ≡ new_irp
  none_yet n lt = get_or-replicate size.irps n.0 new_irp new_irp lt
