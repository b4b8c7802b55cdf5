-- How much of an input is drawn.
use Rattle.std.specs.Prelude.{ℕ, zero, suc, ◌==◌, cond, nat_lt, List, [], ◌∷◌, length, Option, None, Some}
use Rattle.csq_replay.specs.Inputs.{input_limit}

-- the bytes of the first n lines of a text, with their line feeds
abbrev pub first_lines : ℕ → List ℕ → List ℕ
first_lines zero bytes = []
first_lines (suc n) [] = []
first_lines (suc n) (byte ∷ bytes) = byte ∷ first_lines (cond (byte == 10) n (suc n)) bytes

-- its lines up to the one that is named, if one is; an input that is too long stays so
abbrev pub drawn_input : Option ℕ → List ℕ → List ℕ
drawn_input None input = input
drawn_input (Some line) input = cond (nat_lt input_limit (length input)) input (first_lines line input)
