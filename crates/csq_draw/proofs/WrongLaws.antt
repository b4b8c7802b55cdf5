-- The passes that make the steps of rows.
use Rattle.std.proofs.Common.{◌≡◌, ℕ, ◌+◌, ◌<◌, ◌≤◌, List, [], ◌∷◌, ◌++◌, take, length, get_or, refl, ap, sym, ◌∙◌}
use Rattle.std.proofs.lemmas.List.{length-set}
use Rattle.csq_explain.specs.declared.passes.PassNow.{PassNow}
use Rattle.csq_draw.proofs.Imports.{Row, take_more, take_all}
use Rattle.csq_draw.specs.WrongRows.{with_maker, makers}

-- one pass more was noted
makers-last : (ps : List PassNow) (rows : List Row) (w : Row) → makers ps (rows ++ w ∷ []) ≡ with_maker (makers ps rows) w.step.made.pass
makers-last ps [] w = refl
makers-last ps (r ∷ rows) w = makers-last (with_maker ps r.step.made.pass) rows w

pub makers_step : (ps known known' : List PassNow) (rows : List Row) (k : ℕ) (d : Row) → k < length rows → known' ≡ with_maker known (get_or rows k d).step.made.pass → known ≡ makers ps (take k rows) → known' ≡ makers ps (take (k + 1) rows)
makers_step ps known known' rows k d lt is was =
    is ∙ ap (λ ys. with_maker ys (get_or rows k d).step.made.pass) was ∙ sym (ap (makers ps) (take_more rows k d lt) ∙ makers-last ps (take k rows) (get_or rows k d))

pub makers_all : (ps known : List PassNow) (rows : List Row) (k : ℕ) → length rows ≤ k → known ≡ makers ps (take k rows) → known ≡ makers ps rows
makers_all ps known rows k le was = was ∙ ap (makers ps) (take_all k rows le)

pub length-makers : (ps : List PassNow) (rows : List Row) → length (makers ps rows) ≡ length ps
length-makers ps [] = refl
length-makers ps (w ∷ rows) = length-makers (with_maker ps w.step.made.pass) rows ∙ length-set ps w.step.made.pass.0 _
