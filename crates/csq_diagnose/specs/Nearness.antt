-- How near a word is to others.
use Rattle.std.specs.Prelude.{◌≡◌, ℕ, ◌<◌, ◌≤◌, nat_le, List, ◌∷◌, ◌++◌, length, Option, Some, None, if◌then◌else◌}
use Rattle.std.specs.List.{All}
use Rattle.std.specs.Str.{chars}
use Rattle.strsim.specs.Edits.{osa_table}
use Rattle.csq_diagnose.specs.declared.nearest.Near.{Near}

-- the fewest edits that lead from one word to the other, each of which adds a letter, takes one out, replaces one or swaps two neighbours
abbrev pub edits : List ℕ → List ℕ → ℕ
edits from to = (osa_table (chars from) (chars to)).last_row (length (chars to))

-- it is the first of these words to which the fewest edits lead
pub record IsNearest (words : List (List ℕ)) (word : List ℕ) (near : Near) : Type 0 where
  pub before : List (List ℕ)
  pub later : List (List ℕ)
  pub one : words ≡ before ++ near.word.now ∷ later
  pub edits_are : near.edits ≡ edits word near.word.now
  pub first : All (λ other. near.edits < edits word other) before
  pub least : All (λ other. near.edits ≤ edits word other) later

-- the nearer of two, the first one if both are as near
abbrev pub nearer : Option Near → Near → Near
nearer (Some best) other = if nat_le best.edits other.edits then best else other
nearer None other = other
