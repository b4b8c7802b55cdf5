-- The columns of the passes that a window shows.
use Rattle.std.proofs.Common.{◌≡◌, ℕ, ◌<◌, ◌≤◌, List, Option, ap, ◌∙◌, arith, length}
use Rattle.std.specs.Prelude.{slice_index_or}
use Rattle.irp_core.specs.declared.ids.PassId.{PassId}
use Rattle.csq_explain.specs.declared.passes.PassNow.{PassNow}
use Rattle.csq_draw.specs.declared.view.Window.{Window}
use Rattle.csq_draw.specs.Laws.{EachShownPassHasItsColumn, window_shown}
use Rattle.csq_draw.specs.Passes.{makes_step}
use Rattle.csq_draw.specs.Pictures.{Shown}
use Rattle.csq_draw.specs.Windows.{is_shown, shown_pass, shown_passes}
use Rattle.csq_draw.proofs.Imports.{Size, Numbered, Owner, Row, all_passes, count-more, get-table, length-passes, length-table, new_pass_now}

-- none is added
pub length-shown : (passes : List PassNow) (rows : List Row) (owners : List (Option Owner)) → length (shown_passes passes rows owners) ≡ length passes
length-shown passes rows owners = length-table (λ n. shown_pass (slice_index_or passes n new_pass_now) (is_shown rows owners (record { 0 = n }))) (length passes)

module _ (size : Size) (W : List Numbered) (w : Window) where
  abbrev s : Shown
  s = window_shown size W w

  abbrev known : ℕ → PassNow
  known n = shown_pass (slice_index_or (all_passes size W) n new_pass_now) (is_shown s.rows s.owners (record { 0 = n }))

  at : (p : PassId) → p.0 ≤ size.passes → p.0 < length (all_passes size W)
  at p le = omega (arith, le, length-passes size W)

  just : (p : PassId) → p.0 ≤ size.passes → makes_step s.passes p ≡ is_shown s.rows s.owners p
  just p le = ap (λ (now : PassNow). now.makes) (get-table known (length (all_passes size W)) p.0 new_pass_now (at p le))

  pub shown_column : EachShownPassHasItsColumn size W w
  shown_column = record {
    just = just;
    own = λ p q below among shown.
        count-more (λ (now : PassNow). now.makes) s.passes p.0 q.0 new_pass_now (let in_all = at p among in omega (arith, in_all, length-shown (all_passes size W) s.rows s.owners)) below (just p among ∙ shown);
  }
