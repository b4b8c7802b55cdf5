-- What stands where a line is no step, or no call.
use Rattle.std.specs.Prelude.{◌≡◌, ◌≢◌, ℕ, ◌+◌, ◌-◌, ◌==◌, Bool, not, List, [], Some, None, position, slice_get, IsSomeAnd, if◌then◌else◌}
use Rattle.std.specs.Char.{is_ascii_graphic}
use Rattle.csq_diagnose.specs.declared.found.Found.{Found, TheVariants.{End, FirstSpace, TwoSpaces, LastSpace, Byte, Word}}
use Rattle.csq_diagnose.specs.declared.misfit.Misfit.{Misfit}

-- no word has such a byte
abbrev pub is_strange : ℕ → Bool
is_strange byte = not (is_ascii_graphic byte)

-- no byte stands between two spaces, or beside one at an end of the line
abbrev pub IsSpace : Misfit → Type 0
IsSpace m = IsSomeAnd m.word (λ w. w.now ≡ [])

-- which space that is
abbrev pub space_of : Misfit → Found
space_of m = if m.before == 0 then FirstSpace else if m.is_last then LastSpace else TwoSpaces

-- the first byte of the word that no word has, and its index
abbrev pub IsStrangeAt : List ℕ → ℕ → ℕ → Type 0
IsStrangeAt word at byte = (position is_strange word ≡ Some at) × (slice_get word at ≡ Some byte)

-- in the place of the misfit this stands, in this column; a space that ends the line stands before it
abbrev pub IsFoundIn : Misfit → Found → ℕ → Type 0
IsFoundIn m End column = (m.word ≡ None) × (column ≡ m.column)
IsFoundIn m FirstSpace column = IsSpace m × (space_of m ≡ FirstSpace) × (column ≡ m.column)
IsFoundIn m LastSpace column = IsSpace m × (space_of m ≡ LastSpace) × (column ≡ m.column - 1)
IsFoundIn m TwoSpaces column = IsSpace m × (space_of m ≡ TwoSpaces) × (column ≡ m.column)
IsFoundIn m (Byte byte) column = IsSomeAnd m.word (λ w. (at : ℕ) × IsStrangeAt w.now at byte × (column ≡ m.column + at))
IsFoundIn m (Word text) column = IsSomeAnd m.word (λ w. (w.now ≡ text.now) × (w.now ≢ []) × (position is_strange w.now ≡ None)) × (column ≡ m.column)
