-- The names that several proof files of this crate import, each from its home.
pub use Rattle.csq_diagnose.specs.Expecting.{Admits, IsOneOf}
pub use Rattle.csq_diagnose.specs.Grammars.{AreLineWords, Fit, MayBegin, expected_at, named, operands, places_of}
pub use Rattle.csq_diagnose.specs.Misfits.{IsEnd, IsFirstMisfit, IsMisfit, StandsThere, column_of, words_left}
pub use Rattle.csq_diagnose.specs.declared.expected.Expected.{Expected}
pub use Rattle.csq_diagnose.specs.declared.expected.Expected.TheVariants.{ScriptCall, File, Irp, IrpInLife, Nothing, Pass, Peek, Place, Status, Step}
pub use Rattle.csq_replay.specs.Pieces.{IsNumber, words_of}
pub use Rattle.std.specs.Borrow.{Bor}
pub use Rattle.std.specs.List.{All, join_with_byte, list_any, position_or_len}
pub use Rattle.std.specs.Prelude.{IfNone, IfSome, IsTrue, MatchOption, None, Option, Some, if◌then◌else◌, is_none, is_some, nat_le, not, position, slice_get, slice_index_or, ◌==◌, ◌||◌, ◌↔◌, ◌⊎◌}
pub use Rattle.std.specs.Str.{IsUtf8, bytes_eq}
