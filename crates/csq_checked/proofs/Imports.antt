-- The names that several proof files of this crate import, each from its home.
pub use Rattle.csq_checked.specs.Cleanups.{first_left, is_excused}
pub use Rattle.csq_checked.specs.Idle.{AreIdle, IdleSlots, IsIdle, count_out, with_idle_back, with_one_back}
pub use Rattle.csq_checked.specs.Passes.{CheckedPassState, CheckedState, IsCheckedPass, IsPassIn, listed, open_state}
pub use Rattle.csq_checked.specs.Peeks.{matching}
pub use Rattle.csq_checked.specs.Slots.{KnowsItsOwn, held_after_back, held_at, owed_at, slot_at, with_held}
pub use Rattle.csq_checked.specs.declared.judge.peek.PeekVerdict.TheVariants.{Agrees}
pub use Rattle.csq_checked.specs.declared.slots.Held.{Held}
pub use Rattle.csq_list.proofs.Finding.{IsFound, found, found-listed, found-nearer, found-rest, place-found, rest_after-ends}
pub use Rattle.csq_list.specs.Searches.{IsStartIn, first_match, is_distinct, is_listed, matches, rest_after}
pub use Rattle.csq_list.specs.declared.entry.Entry.{Entry}
pub use Rattle.csq_list.specs.declared.entry.Peek.{Peek}
pub use Rattle.csq_queue.proofs.Counting.{by_number, spent, tally_none}
pub use Rattle.csq_queue.proofs.Giving.{GivesOut, insert_gives, remove_gives, remove_next_gives}
pub use Rattle.csq_queue.proofs.Returning.{IsOfIrp, of_accepted, returns}
pub use Rattle.csq_queue.specs.Counts.{AreApart, has_life}
pub use Rattle.csq_queue.specs.Opens.{IsPassOn, IsQueueOn, OpenPassState, OpenState}
pub use Rattle.csq_queue.specs.Rests.{FirstAreBack, HoldsNothing}
pub use Rattle.csq_queue.specs.declared.tokens.InsertAnswer.{InsertAnswer}
pub use Rattle.csq_words.specs.History.{IsLegal, MayCome, end_of}
pub use Rattle.csq_words.specs.Queue.{Limits, QueueState, after_event, present_in, has_irp, has_marked, plain_listing, refusal, reply_to_insert, with_file}
pub use Rattle.csq_words.specs.Seats.{WordsState}
pub use Rattle.csq_words.specs.declared.views.PassRecord.{PassRecord}
pub use Rattle.irp_core.proofs.Names.{named, same_id-refl, same_irp-eq, same_irp-refl, same_pass-is}
pub use Rattle.irp_core.specs.Own.{held_list, holds_in, owed_list, owes_in, removed_in}
pub use Rattle.irp_core.specs.Runs.{Size}
pub use Rattle.irp_core.specs.Steps.{number, same_irp, same_pass}
unfoldable pub use Rattle.irp_core.specs.Steps.{same_id}
pub use Rattle.irp_core.specs.declared.ids.IrpId.{IrpId}
pub use Rattle.irp_core.specs.declared.ids.IrpLife.{IrpLife}
pub use Rattle.irp_core.specs.declared.ids.Life.{Life}
pub use Rattle.std.proofs.lemmas.Bool.{false_from_ne_true, leb-false, lt-leb, or_parts}
pub use Rattle.std.specs.Arc.{arc_value}
pub use Rattle.std.specs.Prelude.{IfSome, slice_set}
