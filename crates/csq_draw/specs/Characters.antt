-- The characters of a comment, whose bytes may be no UTF-8.
use Rattle.std.specs.Prelude.{ℕ, zero, suc, ◌||◌, Bool, List, [], ◌∷◌, ◌++◌, map, length, take, drop, chars, if◌then◌else◌}
use Rattle.std.specs.Char.{is_control}
use Rattle.std.specs.Int.{is_in_range}
use Rattle.std.specs.Str.Lossy.{utf8_valid_len}

-- one that turns the direction of a text or marks it, and U+FFFE and U+FFFF, which XML 1.0 forbids
abbrev pub is_hidden : ℕ → Bool
is_hidden c = is_in_range 0x061C 0x061C c || (is_in_range 0x200E 0x200F c || (is_in_range 0x202A 0x202E c || (is_in_range 0x2066 0x2069 c || is_in_range 0xFFFE 0xFFFF c)))

-- a character, and a question mark for a control character and for such a one
abbrev pub shown : ℕ → ℕ
shown c = if is_control c || is_hidden c then 63 else c

-- a question mark for the first of these bytes, and the bytes after it
abbrev pub marked : List ℕ → List ℕ
marked [] = []
marked (b ∷ bytes) = 63 ∷ []

abbrev pub after_mark : List ℕ → List ℕ
after_mark [] = []
after_mark (b ∷ bytes) = bytes

-- the characters of the longest front that is UTF-8, a question mark for the byte after it, and so on, at most this number of times
unfoldable pub characters_within : ℕ → List ℕ → List ℕ
characters_within zero bytes = []
characters_within (suc k) bytes = let n = utf8_valid_len bytes in
    map shown (chars (take n bytes)) ++ (marked (drop n bytes) ++ characters_within k (after_mark (drop n bytes)))

-- the characters of some bytes: there are no more than bytes
abbrev pub characters : List ℕ → List ℕ
characters bytes = characters_within (length bytes) bytes
