-- The words that begin the lines of schedules and scripts.
use Rattle.std.specs.Prelude.{ℕ, ◌-◌, ◌==◌, List, [], ◌∷◌, ◌++◌, codes, map, if◌then◌else◌}
use Rattle.csq_explain.specs.declared.words.TheConstants.{STEPS, CALLS}

-- the words that say what a step does, after its pass
abbrev pub step_words : List (List ℕ)
step_words = map (λ word. word.now) STEPS

-- the words that begin a call
abbrev pub call_words : List (List ℕ)
call_words = map (λ word. word.now) CALLS

-- these words, with a line feed after the nth
abbrev pub listed : ℕ → List (List ℕ) → List ℕ
listed n [] = []
listed n (w ∷ []) = w
listed n (w ∷ v ∷ []) = w ++ (codes " or " ++ v)
listed n (w ∷ ws) = w ++ ((if n == 1 then codes ",\n  " else codes ", ") ++ listed (n - 1) ws)
