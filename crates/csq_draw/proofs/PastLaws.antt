-- The earlier lives of IRPs grow with the rows.
use Rattle.std.proofs.Common.{◌≡◌, ℕ, ◌+◌, ◌<◌, ◌≤◌, List, [], ◌∷◌, ◌++◌, take, length, get_or, append_assoc, append-nil, ap, sym, ◌∙◌}
use Rattle.csq_draw.specs.declared.lives.PastLife.{PastLife}
use Rattle.csq_draw.specs.Lives.{past_lives, past_of}
use Rattle.csq_draw.proofs.Imports.{IrpNow, Row, take_all, take_more}

module _ (irps : List IrpNow) where
  abbrev of_row : Row → List PastLife
  of_row row = past_of irps row row.step.made.kind

  past-last : (rows : List Row) (row : Row) → past_lives irps (rows ++ row ∷ []) ≡ past_lives irps rows ++ of_row row
  past-last [] row = append-nil (of_row row)
  past-last (r ∷ rows) row = ap (λ t. of_row r ++ t) (past-last rows row) ∙ sym (append_assoc (of_row r) (past_lives irps rows) (of_row row))

  -- one more of these rows was looked at
  pub past_more : (rows : List Row) (k : ℕ) (d : Row) (lives more : List PastLife) → k < length rows → more ≡ lives ++ of_row (get_or rows k d) → lives ≡ past_lives irps (take k rows) → more ≡ past_lives irps (take (k + 1) rows)
  past_more rows k d lives more lt is was = is ∙ ap (λ t. t ++ of_row (get_or rows k d)) was ∙ sym (ap (past_lives irps) (take_more rows k d lt) ∙ past-last (take k rows) (get_or rows k d))

  -- all of them were
  pub past_all : (rows : List Row) (k : ℕ) (lives : List PastLife) → length rows ≤ k → lives ≡ past_lives irps (take k rows) → lives ≡ past_lives irps rows
  past_all rows k lives le was = was ∙ ap (past_lives irps) (take_all k rows le)
