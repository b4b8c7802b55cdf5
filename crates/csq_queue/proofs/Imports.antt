-- The names that several proof files of this crate import, each from its home.
pub use Rattle.atomic_table.specs.Seated.{TableId}
pub use Rattle.csq_list.proofs.Causes.{no_cause, sound-accepted}
pub use Rattle.csq_list.proofs.Keeping.{filter-none, length-filter, listed-put, sound-fresh, sound-removed, sound-renewed, unused-unlisted}
pub use Rattle.csq_list.specs.Listing.{IsSound, Listing, inserted, is_home, put_at, renewed, with_closed, without_irp}
pub use Rattle.csq_list.specs.Searches.{is_distinct, is_listed, matches, rest_after, same_file}
pub use Rattle.csq_list.specs.declared.entry.Peek.{Peek}
pub use Rattle.csq_list.specs.declared.entry.Peek.TheVariants.{File}
pub use Rattle.csq_list.specs.declared.entry.Place.{Place}
pub use Rattle.csq_list.specs.declared.refusals.InsertStatus.{InsertStatus}
pub use Rattle.csq_list.specs.declared.refusals.InsertStatus.TheVariants.{FileClosed, NotHome, UnknownIrp}
pub use Rattle.csq_queue.specs.Adding.{Adds, IsEntered}
pub use Rattle.csq_queue.specs.Counts.{AreApart, has_life, held_count, owed_count, tally}
pub use Rattle.csq_queue.specs.Inserts.{IsInsert, IsPutBack, count_spent, given_by, given_in}
pub use Rattle.csq_queue.specs.Named.{AreFlags, AreNumbers, IrpNumbers, IsListOf, IsLockedOf, IsPassSeatOf, is_back, limits_in, named, out_count, pass_numbered, queue_size}
pub use Rattle.csq_queue.specs.Opens.{IsPassOn, IsQueueOn, IsRack, IsRackOn, OpenPassState, OpenRackState, OpenState, limits_on, rack_table, seat_table}
pub use Rattle.csq_queue.specs.Owned.{EndsWithTake, Holds, HoldsRemoved, MissedTheRoutine, Owes}
pub use Rattle.csq_queue.specs.Rests.{AreOut, FirstAreBack, GivenBack, HasShown, IsClosed, IsLeftCompleted, IsLeftHome, IsLeftListed, IsLeftSo, IsRestOf, KeepsRecord}
pub use Rattle.csq_queue.specs.Searches.{IsSearch, marked}
pub use Rattle.csq_queue.specs.Steps.{MakesSteps, gave, insert_steps, last_step, life_before, listing_steps, made_by, misses, passed_over, put_back_steps, remove_next_steps, remove_steps, reuse_steps}
pub use Rattle.csq_queue.specs.Effects.{AddsEvents, IsNew, SeesRun, count_given, queue_with}
pub use Rattle.csq_queue.specs.declared.tokens.InsertAnswer.{InsertAnswer}
pub use Rattle.csq_words.proofs.Facts.{bit_true, extended_more, held_gone, listed_now, none_filtered, open_now, owed_listed, set_listed}
unfoldable pub use Rattle.csq_words.proofs.Facts.{extended_on}
pub use Rattle.csq_words.proofs.Held.{held_list-is, none_held, none_owed, owed_list-is}
pub use Rattle.csq_words.proofs.Listings.{is_listed-plain, listing-inserted, listing-marked, listing-put_and_taken, listing-put_back, listing-relisted, listing-removed, listing-renewed, listing-taken_back, plain-marking}
pub use Rattle.csq_words.proofs.Lives.{ArePresent, HasSoundLives, legal_lives}
pub use Rattle.csq_words.proofs.Marking.{bare, due_legal, due_marks, first_of, marking-append, none_both, none_head, none_marked, none_marking, none_unmarked, one_marked, unlisted_unmarked, unmarked_else}
pub use Rattle.csq_words.proofs.Named.{by_id, irp_eq, same_id-is, same_id-not, same_irp-is}
pub use Rattle.csq_words.specs.Calls.{IsNextMatch, MayComeBack, MayMake, MayRemove, after_look, after_renewal, after_step, due_mark, with_noted}
pub use Rattle.csq_words.specs.Finals.{AllBack, FinalWords, IsCompletedAt, IsFinal, IsHomeAt, IsLeft, IsListedAt, final_life, final_status}
pub use Rattle.csq_words.specs.History.{IsExtendedBy, IsGone, IsLegal, MayCome, calls_of, end_of, is_call}
pub use Rattle.csq_words.specs.Queue.{Limits, QueueState, Queued, after_event, back_refusal, begin_next, present_in, first_unmarked, has_entry, has_file, has_irp, has_marked, has_unmarked, limits_of, marking, new_entry, plain, plain_listing, refusal, reply_to_insert, with_file, without}
pub use Rattle.csq_words.specs.Records.{caught_up, entries_of, new_pass, only_calls, queue_of, saw, with_back, with_calls, with_completion, with_events, with_life, with_reusing, with_trace, with_shown, with_step}
pub use Rattle.csq_words.specs.Rule.{AreShown, FindsLife, FindsUnset, HasBack, IsHistoryOf, IsLastOf, QueueAndPassHaveRun, RecordsAgree, CallAgrees, SomeRunAgrees, again, in_flight, inserts, is_done, lists, next_life}
pub use Rattle.csq_words.specs.Seats.{PassSeatState, QueueSeatState, WordsState, joined_record, new_seats, pass_at, pass_record, with_view}
pub use Rattle.csq_words.specs.Words.{bit_in, bit_word, cancel_at, life_in, status_at, status_in}
pub use Rattle.csq_words.specs.declared.views.HistoryEntry.{HistoryEntry}
pub use Rattle.csq_words.specs.declared.views.Event.{Event}
pub use Rattle.csq_words.specs.declared.views.Event.TheVariants.{CloseFile, FlagSeen, Insert, Mark, Out, PutBack, Remove, RemoveNext, Reuse}
pub use Rattle.csq_words.specs.declared.views.InsertReply.TheVariants.{Cancelled, Pending, Refused}
pub use Rattle.csq_words.specs.declared.views.PassRecord.{PassRecord}
pub use Rattle.csq_words.specs.declared.views.QueueRecord.{QueueRecord}
pub use Rattle.irp_core.proofs.ByTest.{by_test, by_value}
pub use Rattle.irp_core.proofs.Names.{same_id-eq, same_id-refl, same_irp-eq, same_irp-ne, same_irp-refl, same_pass-eq, same_pass-is, same_pass-not, same_some}
pub use Rattle.irp_core.proofs.Own.{any_filtered, holds_in-own, owes_in-own, own-mine}
pub use Rattle.irp_core.proofs.Owning.{done_gone, owed_not_held, removed_in-own, routine_gone}
pub use Rattle.irp_core.specs.Lives.{HasBegun, IsPresent, last_life, present_life}
pub use Rattle.irp_core.specs.Own.{held_list, holds_in, inside_of, owed_list, owes_in, removed_in}
pub use Rattle.irp_core.specs.Owners.{dones, holds, listed, owes}
pub use Rattle.irp_core.specs.Runs.{IsRun, Size}
pub use Rattle.irp_core.specs.Steps.{by, is, life_of, number, own, same_id, same_irp, same_pass}
pub use Rattle.irp_core.specs.Words.{armed, bit, flagged, routine, was_armed}
pub use Rattle.irp_core.specs.declared.ids.FileId.{FileId}
pub use Rattle.irp_core.specs.declared.ids.IrpId.{IrpId}
pub use Rattle.irp_core.specs.declared.ids.IrpLife.{IrpLife}
pub use Rattle.irp_core.specs.declared.ids.Life.{Life}
pub use Rattle.irp_core.specs.declared.ids.PassId.{PassId}
pub use Rattle.irp_core.specs.declared.inside.Inside.TheVariants.{Nothing, Rearmed, Removing}
pub use Rattle.irp_core.specs.declared.status.TheConstants.NtStatus.{CANCELLED}
pub use Rattle.irp_core.specs.declared.step.Kind.{Kind}
pub use Rattle.irp_core.specs.declared.step.Kind.TheVariants.{Arm, Disarm, Done, End, Flag, Rearm, Renew, Take, Test}
pub use Rattle.irp_core.specs.declared.step.Made.{Made}
pub use Rattle.std.proofs.lemmas.Bool.{and_from, and_parts, cases_lt, false_from_ne_true, lt-ltb, not-true, or_cases, or_parts, or_right}
pub use Rattle.std.proofs.lemmas.List.{append-nil, append_cancel_right, get_or-replicate, length-append, length-map, length-replicate, set-get_or}
pub use Rattle.std.proofs.lemmas.List.Elements.{filter-append}
pub use Rattle.std.specs.Prelude.{IsSome, IsTrue, MatchBool, is_some, length, slice_index, slice_index_or, slice_set, ◌<◌}
pub use lib.ListN.{get_elem?, get_or}
pub use mathlib.Core.Option.{some, some-injective, some-ne-none}
pub use Rattle.csq_words.specs.Traces.{HasCall, IsInCall, steps_in}
pub use Rattle.csq_words.specs.declared.views.Tick.{Tick}
