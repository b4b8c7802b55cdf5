-- What goes wrong at each line.
use Rattle.std.proofs.Common.{◌≡◌, ℕ, ◌+◌, ◌<◌, ◌≤◌, List, [], ◌∷◌, ◌++◌, take, length, get_or, Option, refl, ap, sym, ◌∙◌}
use Rattle.csq_explain.specs.declared.harms.HarmAt.{HarmAt}
use Rattle.csq_draw.proofs.Imports.{take_more, take_all}
use Rattle.csq_draw.specs.HarmMarks.{noted_harm, noted_harms}

-- one harm more was noted
noted-last : (lines : List (Option HarmAt)) (harms : List HarmAt) (h : HarmAt) → noted_harms lines (harms ++ h ∷ []) ≡ noted_harm (noted_harms lines harms) h
noted-last lines [] h = refl
noted-last lines (x ∷ harms) h = noted-last (noted_harm lines x) harms h

pub noted_step : (lines known known' : List (Option HarmAt)) (harms : List HarmAt) (k : ℕ) (d : HarmAt) → k < length harms → known' ≡ noted_harm known (get_or harms k d) → known ≡ noted_harms lines (take k harms) → known' ≡ noted_harms lines (take (k + 1) harms)
noted_step lines known known' harms k d lt is was =
    is ∙ ap (λ ys. noted_harm ys (get_or harms k d)) was ∙ sym (ap (noted_harms lines) (take_more harms k d lt) ∙ noted-last lines (take k harms) (get_or harms k d))

pub noted_all : (lines known : List (Option HarmAt)) (harms : List HarmAt) (k : ℕ) → length harms ≤ k → known ≡ noted_harms lines (take k harms) → known ≡ noted_harms lines harms
noted_all lines known harms k le was = was ∙ ap (noted_harms lines) (take_all k harms le)
