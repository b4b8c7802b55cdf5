-- The names that several proof files of this crate import, each from its home.
pub use Rattle.atomic_table.proofs.Lists.{at_longer, at_set, set_again, set_else, set_here}
pub use Rattle.atomic_table.specs.Table.{Allows, Final, Joins, Seen, Splits, State, keeps, opening, step}
pub use Rattle.csq_list.specs.Listing.{inserted, put_at, without_irp}
pub use Rattle.csq_list.specs.Searches.{is_listed, is_of, matches}
pub use Rattle.csq_list.specs.declared.entry.Peek.{Peek}
pub use Rattle.csq_list.specs.declared.entry.Place.{Place}
pub use Rattle.csq_list.specs.declared.entry.Place.TheVariants.{Back, Front}
pub use Rattle.csq_words.specs.Calls.{IsNextMatch, MayComeBack, MayMake, MayNote, MayRemove, after_look, after_note, after_renewal, after_step, due_mark, recorded}
pub use Rattle.csq_words.specs.Finals.{AllBack, AreOf, FinalWords, HasLives, InLife, IsCompletedAt, IsFinal, IsHomeAt, IsLeft, IsListedAt, IsRecordedBack, KeepsRecords, final_life, final_status, says_cancelled, shows_cancelled}
pub use Rattle.csq_words.specs.History.{IsExtendedBy, IsGone, IsLegal, IsOrderly, MayCome, MayStand, OwnersPutBack, calls_of, end_of, given_to, gives, is_call, puts_back}
pub use Rattle.csq_words.specs.Plays.{Completes, FindsUnmarked, Flags, IsBeingReused, IsFound, Looks, MakesStep, Notes, Observes, ObservesNote, ReadsCancel, ReadsStatusWord, RenewsCancel, RenewsStatus, SaysFlagged, SaysStatusOf, SeatView, SeesAll, SeesFlag, Takes, FindsAgreement, ObservesBoth, ObservesQueue, after_flag, any_step, life_found, says_flagged, shows_flagged, status_recorded, taken_by}
pub use Rattle.csq_words.specs.Queue.{Limits, QueueState, Queued, after_event, begin_next, present_in, first_unmarked, has_entry, has_file, has_irp, has_marked, has_unmarked, marking, new_entry, plain, plain_listing, without}
pub use Rattle.csq_words.specs.Recorded.{IsOfCall}
pub use Rattle.csq_words.specs.Records.{after_cut, caught_up, cut_off, entries_of, going_back, joined_by, leaving, new_pass, new_queue, newest, next_pass, one_more, only_calls, pass_in, pass_prefix_view, pass_view, prefix_of, prefix_view, prefix_view_of, queue_in, queue_of, receipt_of, receipt_view, same_view, saw, saw_prefix, shown_by, shown_receipt, spent_view, view_of, with_back, with_calls, with_completion, with_events, with_life, with_prefix_of, with_reusing, with_trace, with_shown, with_step, without_pass}
pub use Rattle.csq_words.specs.Rule.{AreBack, AreDue, AreStored, AreTrueOf, BackOnce, Fits, HasBack, HasObserved, HasSeen, HaveSeen, HasWords, HaveBegun, IsBack, IsBitWord, IsRoutineWord, SaysRoutine, IsHistoryOf, IsNobody, IsOut, IsPassOf, IsRecord, IsResting, IsReuse, IsStatusWord, IsStored, IsTrueOf, MayRenew, QueueHasRun, RecordsAgree, RuleHolds, RuleHoldsBy, RuleHoldsWith, SaysStatus, SeatHasRecord, SomeRunAgrees, WasCancelled, WordsAgree, again, completed_in, in_flight, inserts, is_done, lists, next_life, passes_given, renewed_status, stands_for, table_size, was_put_back, was_set, with_done}
pub use Rattle.csq_words.specs.Seats.{HasQueue, IsHere, IsJoined, IsPassSeat, IsQueueSeat, IsReceipt, IsSeenSeat, PassSeatState, QueueSeatState, SeenState, WordSeat, joined_record, new_seats, pass_at, pass_record, pass_seat_of, queue_seat_of, receipt_seat_of, seen_seat_of, with_view}
pub use Rattle.csq_words.specs.Traces.{IsTraceOf, steps_in}
pub use Rattle.csq_words.specs.Words.{bit_in, bit_word, cancel_at, life_in, new_words, routine_at, status_at, status_in, status_life_in, status_word, unset_word}
pub use Rattle.csq_words.specs.declared.calls.Call.{Call}
pub use Rattle.csq_words.specs.declared.views.Completion.{Completion}
pub use Rattle.csq_words.specs.declared.views.HistoryEntry.{HistoryEntry}
pub use Rattle.csq_words.specs.declared.views.Event.{Event}
pub use Rattle.csq_words.specs.declared.views.Event.TheVariants.{CloseFile, FlagSeen, Insert, Mark, PutBack, Remove, RemoveNext, Reuse}
pub use Rattle.csq_words.specs.declared.views.InsertReply.TheVariants.{Cancelled, Pending, Refused}
pub use Rattle.csq_words.specs.declared.views.PassRecord.{PassRecord}
pub use Rattle.csq_words.specs.declared.views.QueueRecord.{QueueRecord}
pub use Rattle.csq_words.specs.declared.views.Reusing.{Reusing}
pub use Rattle.csq_words.specs.declared.views.Reusing.TheVariants.{Looked, Nothing, StatusRenewed}
pub use Rattle.csq_words.specs.declared.views.Tick.{Tick}
pub use Rattle.csq_words.specs.declared.views.Tick.TheVariants.{Makes}
pub use Rattle.csq_words.specs.declared.views.View.{View}
pub use Rattle.irp_core.proofs.ByTest.{by_test, by_value}
pub use Rattle.irp_core.proofs.Growing.{Parted, outside_whole, run_last, run_less, run_none, run_parted}
pub use Rattle.irp_core.proofs.Lives.{ended_once, life_bound, life_grows, open_present, used_begun}
pub use Rattle.irp_core.proofs.Names.{named, other_irp, same_id-eq, same_id-ne, same_id-refl, same_irp-eq, same_irp-refl, same_pass-eq, same_pass-is, same_pass-ne, same_pass-not, same_pass-refl, same_some}
pub use Rattle.irp_core.proofs.Next.{IsFreeFor, grows_by_arm, grows_by_disarm_again, grows_by_done, grows_by_end, grows_by_flag, grows_by_insert_disarm, grows_by_out, grows_by_rearm, grows_by_removal_disarm, grows_by_renew, grows_by_take, grows_by_test, grows_by_test_again, inserted_listed}
pub use Rattle.irp_core.proofs.Own.{any_filtered, flagged_own, holds_in-own, inside_of-own, owes_in-own, own-mine, own-other, own_made, own_stays}
pub use Rattle.irp_core.proofs.Owning.{done_gone, open_dones, removed_in-own, rest_flagged, stands}
pub use Rattle.irp_core.proofs.Rows.{Row}
pub use Rattle.irp_core.specs.Completion.{holds_removed, removed}
pub use Rattle.irp_core.specs.Inside.{after_disarm, after_test, follows, has_lock, in_insert, inside, inside_after}
pub use Rattle.irp_core.specs.Lives.{HasBegun, IsPresent, last_life, present, present_life, renewals}
pub use Rattle.irp_core.specs.Own.{held_after, held_list, holds_in, inside_of, owed_after, owed_list, owes_in, removed_in, was_removed_in}
pub use Rattle.irp_core.specs.Owners.{claims, dones, has_gone, holds, listed, owes, taken}
pub use Rattle.irp_core.specs.Runs.{IsRun, MayTouch, OfIrp, Size}
pub use Rattle.irp_core.specs.Steps.{by, found_one, is, life_of, number, own, same_id, same_irp, same_kind, same_pass}
pub use Rattle.irp_core.specs.Words.{armed, bit, cancel, flagged, found_by, routine, was_armed}
pub use Rattle.irp_core.specs.declared.ids.FileId.{FileId}
pub use Rattle.irp_core.specs.declared.ids.IrpId.{IrpId}
pub use Rattle.irp_core.specs.declared.ids.IrpLife.{IrpLife}
pub use Rattle.irp_core.specs.declared.ids.Life.{Life}
pub use Rattle.irp_core.specs.declared.ids.PassId.{PassId}
pub use Rattle.irp_core.specs.declared.inside.Inside.{Inside}
pub use Rattle.irp_core.specs.declared.standing.Standing.{Standing}
pub use Rattle.irp_core.specs.declared.standing.Standing.TheVariants.{Finished, Held, Home, Owed, Waiting}
pub use Rattle.irp_core.specs.declared.status.NtStatus.{NtStatus}
pub use Rattle.irp_core.specs.declared.status.TheConstants.NtStatus.{CANCELLED}
pub use Rattle.irp_core.specs.declared.step.Kind.{Kind}
pub use Rattle.irp_core.specs.declared.step.Kind.TheVariants.{Arm, Disarm, Done, End, Flag, Out, Rearm, Renew, Take, Test}
pub use Rattle.irp_core.specs.declared.step.Made.{Made}
pub use Rattle.std.proofs.Math.Bool.{and-false, and-true}
pub use Rattle.std.proofs.lemmas.Bool.{and_from, and_parts, cases_lt, false_from_ne_true, le-leb, lt-ltb, ltb-true, or_parts, or_right}
pub use Rattle.std.proofs.lemmas.List.{append-nil, set-get_or}
pub use Rattle.std.specs.List.{find, list_any}
pub use Rattle.std.specs.Prelude.{IsSome, is_some, slice_index}
pub use lib.ListN.{get_elem?, get_or}
pub use mathlib.Core.Option.{none, some, some-injective, some-ne-none}
