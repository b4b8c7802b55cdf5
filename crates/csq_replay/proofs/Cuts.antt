-- The first piece, and the pieces after it.
use Rattle.std.proofs.Common.{◌≡◌, ℕ, ◌+◌, ◌-◌, ◌<◌, ◌≤◌, Bool, true, false, cond, List, [], ◌∷◌, length, take, drop, Some, None, refl, ap, sym, ◌∙◌, arith, ltb-true, ltb-false, ltb, subst, length-drop}
use Rattle.std.proofs.lemmas.List.Sums.{fails_before_first}
use Rattle.csq_replay.proofs.Imports.{take_all, slice_split_first, slice_split_none, length-slice_split, position, ◌==◌, position_or_len, pieces, without_empty_last, lines_of}

module _ (byte : ℕ) (bytes : List ℕ) where
  abbrev is_it : ℕ → Bool
  is_it b = b == byte

  abbrev place : ℕ
  place = position_or_len is_it bytes

  found_at : (t : Bool) (at : ℕ) → cond t (Some place) None ≡ Some at → (t ≡ true) × (place ≡ at)
  found_at true at e = (refl, cc)
  found_at false at e = absurd cc

  found_none : (t : Bool) → cond t (Some place) None ≡ None → t ≡ false
  found_none true e = absurd cc
  found_none false e = refl

  -- what the code cuts off after the byte is all that is left
  rest_whole : (at : ℕ) → take (length bytes - (at + 1)) (drop (at + 1) bytes) ≡ drop (at + 1) bytes
  rest_whole at = take_all _ _ (omega (arith, length-drop (at + 1) bytes))

  pub piece_at : (at : ℕ) → Some at ≡ position is_it bytes → pieces byte bytes ≡ take at bytes ∷ pieces byte (take (length bytes - (at + 1)) (drop (at + 1) bytes))
  piece_at at e =
      let h = found_at (ltb place (length bytes)) at (sym e) in
      let cut = slice_split_first is_it bytes 0 (ltb-true place (length bytes) h.0) in
      subst (λ n. pieces byte bytes ≡ take n bytes ∷ pieces byte (drop (n + 1) bytes)) h.1 cut ∙ ap (λ rest. take at bytes ∷ pieces byte rest) (sym (rest_whole at))

  pub piece_alone : None ≡ position is_it bytes → pieces byte bytes ≡ bytes ∷ []
  piece_alone e =
      let beyond : length bytes ≤ position_or_len is_it bytes = ltb-false place (length bytes) (found_none (ltb place (length bytes)) (sym e)) in
      slice_split_none is_it bytes (λ k d lt. fails_before_first is_it bytes k d (omega (arith, beyond, lt)))

-- a line before others
lines_before : (line : List ℕ) (pieces_after : List (List ℕ)) → 0 < length pieces_after → without_empty_last (line ∷ pieces_after) ≡ line ∷ without_empty_last pieces_after
lines_before line [] h = absurd (omega arith)
lines_before [] (piece ∷ more) h = refl
lines_before (byte ∷ line) (piece ∷ more) h = refl

pub lines_more : (bytes line rest : List ℕ) → pieces 10 bytes ≡ line ∷ pieces 10 rest → lines_of bytes ≡ line ∷ lines_of rest
lines_more bytes line rest e =
    ap without_empty_last e ∙ lines_before line (pieces 10 rest) (omega (arith, length-slice_split (λ b. b == 10) rest))
