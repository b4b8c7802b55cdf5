-- The elements of rows grow with the rows.
use Rattle.std.proofs.Common.{◌≡◌, ℕ, ◌+◌, ◌<◌, List, [], ◌∷◌, ◌++◌, take, length, get_or, append_assoc, append-nil, refl, ap, sym, ◌∙◌}
use Rattle.csq_draw.proofs.Imports.{take_more, Drew, with_all, Row, IrpNow, irp_named, irps_after, with_irp, row_after, rows_elements}
use Rattle.csq_draw.proofs.Growing.{drew_more, drew_same}
use Rattle.csq_draw.specs.declared.element.Element.{Element}
use Rattle.csq_explain.specs.declared.passes.PassNow.{PassNow}

module _ (passes : List PassNow) (irps : List IrpNow) where
  -- those of some rows, and then of others
  pub rows-append : (known : List IrpNow) (rows others : List Row) → rows_elements passes irps known (rows ++ others) ≡ rows_elements passes irps known rows ++ rows_elements passes irps (irps_after known rows) others
  rows-append known [] others = refl
  rows-append known (r ∷ rows) others =
      let first = row_after passes irps (irp_named known r.step.made.kind) r in
      ap (λ t. first ++ t) (rows-append (with_irp known r) rows others) ∙ sym (append_assoc first (rows_elements passes irps (with_irp known r) rows) (rows_elements passes irps (irps_after (with_irp known r) rows) others))

  -- one row more
  pub rows-last : (known : List IrpNow) (rows : List Row) (row : Row) → rows_elements passes irps known (rows ++ row ∷ []) ≡ rows_elements passes irps known rows ++ row_after passes irps (irp_named (irps_after known rows) row.step.made.kind) row
  rows-last known rows row = rows-append known rows (row ∷ []) ∙ ap (λ t. rows_elements passes irps known rows ++ t) (append-nil (row_after passes irps (irp_named (irps_after known rows) row.step.made.kind) row))

  -- one more of them was drawn
  pub drew_row : {I : Type 0} (added : I → Element → I) (fresh known : List IrpNow) (rows : List Row) (k : ℕ) (d : Row) (old between new : I) → k < length rows → known ≡ irps_after fresh (take k rows) → Drew added old between (rows_elements passes irps fresh (take k rows))
      → Drew added between new (row_after passes irps (irp_named known (get_or rows k d).step.made.kind) (get_or rows k d)) → Drew added old new (rows_elements passes irps fresh (take (k + 1) rows))
  drew_row added fresh known rows k d old between new lt is a drew =
      let row = get_or rows k d in
      let b = drew_same added between new (λ xs. row_after passes irps (irp_named xs row.step.made.kind) row) _ _ is drew in
      let one = row_after passes irps (irp_named (irps_after fresh (take k rows)) row.step.made.kind) row in
      drew_more added old between new (rows_elements passes irps fresh (take k rows)) one a b
      ∙ ap (λ es. with_all added old es) (sym (ap (λ rs. rows_elements passes irps fresh rs) (take_more rows k d lt) ∙ rows-last fresh (take k rows) row))
