-- Lists of what stands at each number.
use Rattle.std.specs.Prelude.{ℕ, zero, suc, List, [], ◌∷◌, ◌++◌}

-- f of each number below n, in order
abbrev pub table : {A : Type 0} → (ℕ → A) → ℕ → List A
table f zero = []
table f (suc n) = table f n ++ f n ∷ []
