-- Where a line is no step, or no call.
use Rattle.std.specs.Prelude.{◌≡◌, ◌↔◌, ℕ, ◌+◌, ◌-◌, ◌^◌, ◌<◌, ◌≤◌, List, [], ◌∷◌, ◌++◌, take, drop, length, None, slice_get, is_none, Option, IfSome, IfNone}
use Rattle.std.specs.List.{join_with_byte}
use Rattle.std.specs.Borrow.{Bor}
use Rattle.std.specs.Option.{option_map, option_map_or}
use Rattle.csq_replay.specs.Pieces.{words_of}
use Rattle.csq_diagnose.specs.declared.expected.Expected.{Expected}
use Rattle.csq_diagnose.specs.declared.grammar.Grammar.{Grammar}
use Rattle.csq_diagnose.specs.declared.misfit.Misfit.{Misfit}
use Rattle.csq_diagnose.specs.Expecting.{Admits}
use Rattle.csq_diagnose.specs.Grammars.{Fit, expected_at, MayBegin}

-- the column of the text that is left of a line, from 1 on
abbrev pub column_of : List ℕ → List (List ℕ) → ℕ
column_of line left = length line - length (join_with_byte 32 left) + 1

-- the words of what is left of a line, if anything is
abbrev pub words_left : Option (Bor (List ℕ)) → List (List ℕ)
words_left left = option_map_or (λ (text : Bor (List ℕ)). words_of text.now) left []

-- what stands in the place of a misfit: a word, of which it is said whether it is the last, or the end of the line
pub record StandsThere (line : List ℕ) (m : Misfit) : Type 0 where
  pub word : option_map (λ w. w.now) m.word ≡ slice_get (words_of line) m.before
  pub column : m.column ≡ column_of line (drop m.before (words_of line))
  pub last : IfSome m.word (λ w. m.is_last ≡ is_none (slice_get (words_of line) (m.before + 1)))
  pub unfit : IfSome m.word (λ w. ¬ Admits m.expected w.now)
  pub small : IfSome m.word (λ w. m.column + length w.now ≤ 2 ^ 63)

-- the line ends after n words, and more are expected
abbrev pub IsEnd : List Expected → List ℕ → ℕ → Misfit → Type 0
IsEnd places line n m = (m.before ≡ n) × (n < length places) × (m.word ≡ None) × (m.column ≡ length line + 1) × (m.expected ≡ expected_at places n)

-- by these places it is the first misfit of the line
pub record IsFirstMisfit (places : List Expected) (line : List ℕ) (m : Misfit) : Type 0 where
  pub begun : Fit (take m.before places) (take m.before (words_of line))
  pub bound : m.before ≤ length places
  pub expected : m.expected ≡ expected_at places m.before
  pub short : IfNone m.word (m.before < length places)
  pub there : StandsThere line m

-- it is the misfit of a line that names no step, or no call
pub record IsMisfit (g : Grammar) (line : List ℕ) (m : Misfit) : Type 0 where
  -- the words before it are the longest beginning that a step, or a call, may have
  pub begins : MayBegin g (take m.before (words_of line))
  -- just the words that are expected may follow them
  pub next : (w : List ℕ) → MayBegin g (take m.before (words_of line) ++ w ∷ []) ↔ Admits m.expected w
  pub there : StandsThere line m
