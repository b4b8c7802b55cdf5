-- The marks of an order that breaks the protocol, and those of what a window shows.
use Rattle.std.proofs.Common.{◌≡◌, ℕ, ◌+◌, Bool, true, false, Option, Some, None, filter, List, [], ◌∷◌, ◌++◌, length, replicate, refl, ap, sym, subst, ◌∙◌}
use Rattle.csq_explain.specs.declared.harms.HarmAt.{HarmAt}
use Rattle.csq_explain.specs.declared.reasons.Reason.{Reason}
use Rattle.std.proofs.lemmas.List.{length-replicate}
use Rattle.csq_explain.specs.declared.passes.PassNow.{PassNow}
use Rattle.csq_draw.specs.Lives.{past_lives}
use Rattle.csq_draw.specs.declared.view.Window.{Window}
use Rattle.csq_draw.specs.declared.refusals.FirstRefusal.{FirstRefusal}
use Rattle.csq_draw.specs.Endings.{rest_of}
use Rattle.csq_draw.specs.Laws.{EachShownStepHasOneMark, EachStepOfAnOrderHasOneMark, added, mark_in, mark_of, mark_on, marks, marks_from, marks_in, order_marks, picked, window_marks, window_shown}
use Rattle.csq_draw.specs.HarmMarks.{harm_mark, harm_on, harms_by_line, row_harm}
use Rattle.csq_draw.specs.Pictures.{broken_elements, broken_end, harm_elements, harm_marks, harms_elements}
use Rattle.csq_draw.specs.Rows.{rows_of}
use Rattle.csq_draw.specs.Windows.{cut, places, shows}
use Rattle.csq_draw.specs.Drawings.{Drawn, drawn_rows, order_shown}
use Rattle.csq_draw.proofs.Imports.{IrpNow, Numbered, Row, EndShown, Shown, Size, all_passes, close_of, fresh_irps, irps_after, irps_of, mark_element, new_irp, rows_elements, shown_elements, stop_of, stopped_end}
use Rattle.csq_draw.proofs.Known.{length-after}
use Rattle.csq_draw.proofs.Picking.{none_closed, none_picked, none_then, picked-append, then_none}
use Rattle.csq_draw.proofs.PictureLaws.{all_picked, marks_picked, of_rows, quiet}
use Rattle.csq_draw.proofs.RowElements.{rows-append}

-- of what is shown, before elements that are no marks
marks_shown : (s : Shown) (e : EndShown) (zs : List _) → picked mark_in (rows_elements s.passes s.irps (fresh_irps s.irps) s.rows) ≡ zs → picked mark_in (e.on_rows s ++ e.below (length s.rows)) ≡ [] → marks_in s e ≡ zs
marks_shown s e zs rows none =
    then_none mark_in (shown_elements s (length s.rows)) (e.on_rows s ++ e.below (length s.rows)) zs (of_rows (λ m. m ∷ []) (λ n. []) (λ s. []) (λ a. []) s (length s.rows) zs rows) none

-- what goes wrong has none
no_harm_mark : (rows : ℕ) (harms : List HarmAt) → picked mark_in (harms_elements rows harms) ≡ []
no_harm_mark rows [] = refl
no_harm_mark rows (h ∷ harms) = none_picked mark_in (harm_elements rows) (λ k x. refl) 0 (h ∷ harms)

-- on the rows too
no_row_mark : (ps : List PassNow) (row : Row) (h : Option HarmAt) → picked mark_in (harm_mark ps row h) ≡ []
no_row_mark ps row (Some h) = refl
no_row_mark ps row None = refl

no_broken_mark : (s : Shown) (n : ℕ) (reason : Reason) (harms : List HarmAt) → picked mark_in ((broken_end n reason harms).on_rows s ++ (broken_end n reason harms).below (length s.rows)) ≡ []
no_broken_mark s n reason harms =
    let lines = harms_by_line s.rows harms in
    none_then mark_in (harm_marks s.passes s.rows harms) (broken_elements n reason harms (length s.rows)) [] (none_picked mark_in (row_harm s.passes lines) (λ k row. no_row_mark s.passes row (harm_on lines row)) 0 s.rows) (no_harm_mark (length s.rows) harms)

module _ (size : Size) (d : Drawn) (refusal : FirstRefusal) where
  abbrev s : Shown
  s = order_shown size d refusal

  abbrev fresh : List IrpNow
  fresh = replicate size.irps new_irp

  fresh_are : fresh_irps s.irps ≡ fresh
  fresh_are = ap (λ n. replicate n new_irp) (length-after fresh (drawn_rows size d) ∙ length-replicate size.irps new_irp)

  order_picked : picked mark_in (rows_elements s.passes s.irps (fresh_irps s.irps) s.rows) ≡ order_marks size d s
  order_picked =
      let kept = rows_elements s.passes s.irps fresh (rows_of size d.kept) in
      let later = rows_elements s.passes s.irps (irps_after fresh (rows_of size d.kept)) d.later in
      ap (λ xs. picked mark_in (rows_elements s.passes s.irps xs s.rows)) fresh_are
      ∙ ap (λ es. picked mark_in es) (rows-append s.passes s.irps fresh (rows_of size d.kept) d.later)
      ∙ picked-append mark_in kept later
      ∙ ap (λ t. t ++ picked mark_in later) (all_picked (λ m. m ∷ []) (λ n. []) (λ s. []) (λ a. []) (λ ps irps row spot. mark_in (mark_element ps irps row)) (λ ps irps row spot. ap (λ t. t ++ mark_in (mark_element ps irps row)) (quiet ps row spot)) size s.passes s.irps d.kept)
      ∙ ap (λ t. added (mark_of size s.passes s.irps) d.kept ++ t) (marks_picked s.passes s.irps (irps_after fresh (rows_of size d.kept)) d.later)

  pub each_order_mark : EachStepOfAnOrderHasOneMark size d refusal
  each_order_mark = record {
    stopped = λ n reason. marks_shown s (stopped_end n reason) _ order_picked refl;
    broken = λ n reason harms. marks_shown s (broken_end n reason harms) _ order_picked (no_broken_mark s n reason harms);
  }

-- the rows that a window shows are those of the steps that it shows
module _ (ps : List PassNow) (irps : List IrpNow) (w : Window) (pl : List ℕ) where
  cut_marks : (n : ℕ) (rows : List Row) → marks ps irps (cut w pl n rows) ≡ marks_from ps irps n (filter (shows w) rows)
  cut_marks n [] = refl
  cut_marks n (row ∷ rows) = go (shows w row) refl (cut_marks (n + 1) rows) (cut_marks n rows)
    where
      go : (b : Bool) → shows w row ≡ b → marks ps irps (cut w pl (n + 1) rows) ≡ marks_from ps irps (n + 1) (filter (shows w) rows) → marks ps irps (cut w pl n rows) ≡ marks_from ps irps n (filter (shows w) rows)
          → marks ps irps (cut w pl n (row ∷ rows)) ≡ marks_from ps irps n (filter (shows w) (row ∷ rows))
      go true e shown hidden = rw e (ap (λ t. mark_on ps irps n row ∷ t) shown)
      go false e shown hidden = rw e hidden

module _ (size : Size) (W : List Numbered) (w : Window) where
  abbrev shown : Shown
  shown = window_shown size W w

  window_picked : picked mark_in (rows_elements shown.passes shown.irps (fresh_irps shown.irps) shown.rows) ≡ window_marks size W w
  window_picked =
      marks_picked shown.passes shown.irps (fresh_irps shown.irps) shown.rows ∙ cut_marks shown.passes shown.irps w (places w 0 (rows_of size W)) 0 (rows_of size W)

  pub each_shown_mark : EachShownStepHasOneMark size W w
  each_shown_mark = record {
    stopped = λ n stop. marks_shown shown (stop_of size W n stop) _ window_picked refl;
    closed = λ reported at_rest.
        marks_shown shown (close_of size W reported at_rest) _ window_picked (none_closed mark_in (λ n b. refl) (irps_of size W) (past_lives (irps_of size W) (rows_of size W)) reported (rest_of (all_passes size W) at_rest) (length shown.rows));
  }
