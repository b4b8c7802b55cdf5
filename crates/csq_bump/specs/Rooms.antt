-- What a room owns.
use Rattle.std.specs.Prelude.{ℕ}
use mir.Syntax.{Ty, w128, ty_int, ty_array}
use base.Fml.{Fml}
use denote.RawPtr.{Ptr, room_for}

-- this number of pieces of 16 bytes
abbrev pub pieces_of : ℕ → Ty
pieces_of n = ty_array (ty_int w128) n

-- the right to write and to read them
abbrev pub room_of : ℕ → Ptr → Fml
room_of n p = room_for (pieces_of n) p
