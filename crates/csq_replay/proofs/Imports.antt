-- The names that several proof files of this crate import, each from its home.
pub use Rattle.csq_list.proofs.Keeping.{filter-none, filter-put_at, listed-put, listed_few}
pub use Rattle.csq_list.specs.Causes.{first_cause, is_cause}
pub use Rattle.csq_list.specs.Listing.{IsSound, Listing, inserted, put_at, renewed, with_closed, without_irp}
pub use Rattle.csq_list.specs.Searches.{IsStartIn, first_match, is_distinct, is_listed, matches, rest_after}
pub use Rattle.csq_list.specs.declared.entry.Entry.{Entry}
pub use Rattle.csq_list.specs.declared.entry.Peek.{Peek}
pub use Rattle.csq_list.specs.declared.entry.Peek.TheVariants.{Any, File}
pub use Rattle.csq_list.specs.declared.entry.Place.{Place}
pub use Rattle.csq_list.specs.declared.refusals.InsertStatus.{InsertStatus}
pub use Rattle.csq_replay.specs.Calls.{Calls, Cleans, Does, IsPresentOf, Script, after_mark, after_reuse, after_routine, after_steps, cancelled_life, completing, doing, file_of, irp_of, life_after, life_now, named_removal_steps, new_script, next_step, present_of, removal_reply, removal_steps, script_pass, script_size, status_reply, token_of}
pub use Rattle.csq_replay.specs.Calls.Calls.{cancels_insert, cancels_put_back, claims, claims_none, closes, completes, has_no_claim, holds_none, is_stale, knows_no_file, knows_no_irp, lists, lives_spent, not_completed, puts_back, refuses_insert, refuses_pending, refuses_put_back, removes, removes_next, removes_none, reuses, runs_routine, reports_flag, reports_status}
pub use Rattle.csq_replay.specs.Calls.Cleans.{none_left, one_more}
pub use Rattle.csq_replay.specs.Calls.Does.{calls, cancel_claimed, cancel_unclaimed, cleaned}
pub use Rattle.csq_replay.specs.Drivers.{AreMarked, HoldsRemoved, IsOfRun, Keeping, Keeps, keeping}
pub use Rattle.csq_replay.specs.Laws.{EachInsertedIrpIsAccountedFor, EndsWith, HasOneAnswer, HasOneScriptAnswer, LeadTo}
pub use Rattle.csq_replay.specs.Lines.{AnswersAll, GrewBy, IsAnswer, IsSkipped, IsWithinLine, Leaves}
pub use Rattle.csq_replay.specs.Outcomes.{ComesTo, step_of}
pub use Rattle.csq_replay.specs.Pieces.{IsNumber, IsShort, lines_of, pieces, without_empty_last, words_of}
pub use Rattle.csq_replay.specs.Schedule.{AnswersLine, AreReportedOf, Closes, IsClosing, IsReportedOf, Numbered, ReportsLine, ReportsRest, answer_text, claim_line, claim_lines, grown, irp_line_text, irp_lines_text, rest_text, run_of, unless_silent}
pub use Rattle.csq_replay.specs.ScriptAnswer.{AnswersCall, AreLeft, IsScriptAnswer, ReportsCall, call_text, closing_lines, going_on, irps_below, is_kept, kept_irps, kept_name, left_line, left_lines, listed_irps, named_line, numbers}
pub use Rattle.csq_replay.specs.StepLine.{AreKindWords, AreNameWords, IsNameWord, IsStepLine, verb_of}
pub use Rattle.csq_replay.specs.declared.lines.answer.Ended.{Ended}
pub use Rattle.csq_replay.specs.declared.schedule.closing.IrpLine.{IrpLine}
pub use Rattle.csq_replay.specs.declared.script.call.ScriptCall.{ScriptCall}
pub use Rattle.csq_replay.specs.declared.script.call.ScriptCall.TheVariants.{Cancel, Cleanup, Close, Complete, Insert, Mark, Next, PutBack, Remove, Reuse, Routine, Status}
pub use Rattle.csq_replay.specs.declared.script.call.CallRefused.TheVariants.{LivesSpent, NoClaim, NotCompleted, NotHeld, Stale, StatusPending, UnknownFile, UnknownIrp}
pub use Rattle.csq_replay.specs.declared.script.call.Reply.{Reply}
pub use Rattle.csq_replay.specs.declared.script.call.Reply.TheVariants.{Begun, Cancelled, Claimed, Cleaned, Closed, Completed, InsertRefused, NoIrp, Pending, Refused, Removed, Unclaimed}
pub use Rattle.csq_words.proofs.Listings.{is_listed-plain, listing-inserted, listing-marked, listing-put_and_taken, listing-relisted, listing-removed, listing-renewed, listing-taken_back}
pub use Rattle.csq_words.proofs.Lives.{AreBegun, ArePresent, HasSoundLives}
pub use Rattle.csq_words.proofs.Named.{id_eq, irp_eq, same_irp-is, same_irp-not}
pub use Rattle.csq_words.specs.Plays.{status_recorded}
pub use Rattle.csq_words.specs.Queue.{Limits, QueueState, Queued, after_event, back_refusal, begin_next, present_in, first_unmarked, has_entry, has_irp, has_marked, has_unmarked, limits_of, marking, new_entry, plain, plain_listing, refusal, reply_to_insert, with_file, without}
pub use Rattle.irp_core.proofs.ByTest.{by_test, by_value}
pub use Rattle.irp_core.proofs.Lives.{life_next, life_same, listed_present, unborn_home, used_begun}
pub use Rattle.irp_core.proofs.Names.{named, same_id-eq, same_id-ne, same_irp-eq, same_irp-ne, same_irp-refl, same_pass-eq, same_pass-refl}
pub use Rattle.irp_core.proofs.Owning.{done_gone, stands}
pub use Rattle.irp_core.proofs.Rows.{IsDue, Row, done_at, has_left}
pub use Rattle.irp_core.specs.Completion.{IsPlace, completed_by, holds_removed, removed, status_due}
pub use Rattle.irp_core.specs.Inside.{follows, has_lock, in_insert, inside, inside_after}
pub use Rattle.irp_core.specs.Lives.{IsPresent, last_life, present, present_life}
pub use Rattle.irp_core.specs.MachineState.{Agrees, MachineState, size_of}
pub use Rattle.irp_core.specs.Owners.{dones, has_gone, holds, listed, owes}
pub use Rattle.irp_core.specs.Runs.{IsKnown, IsRun, Size}
pub use Rattle.irp_core.specs.Steps.{Each, life_of, made, name_of, number, same_id}
unfoldable pub use Rattle.irp_core.specs.Steps.{same_irp, same_pass}
pub use Rattle.irp_core.specs.Texts.{irp_text, pass_text}
pub use Rattle.irp_core.specs.Words.{armed, bit, flagged, found_by, was_armed}
pub use Rattle.irp_core.specs.declared.ids.FileId.{FileId}
pub use Rattle.irp_core.specs.declared.ids.IrpId.{IrpId}
pub use Rattle.irp_core.specs.declared.ids.IrpLife.{IrpLife}
pub use Rattle.irp_core.specs.declared.ids.PassId.{PassId}
pub use Rattle.irp_core.specs.declared.inside.Inside.{Inside}
pub use Rattle.irp_core.specs.declared.inside.Inside.TheVariants.{Armed, Cancelling, FlagSeen, FlagSeenAgain, Nothing, Rearmed, Removing}
pub use Rattle.irp_core.specs.declared.standing.IrpPlace.{IrpPlace}
pub use Rattle.irp_core.specs.declared.standing.Standing.{Standing}
pub use Rattle.irp_core.specs.declared.status.NtStatus.{NtStatus}
pub use Rattle.irp_core.specs.declared.status.TheConstants.NtStatus.{CANCELLED, PENDING}
pub use Rattle.irp_core.specs.declared.step.Kind.{Kind}
pub use Rattle.irp_core.specs.declared.step.Kind.TheVariants.{Arm, Disarm, Done, End, Flag, Out, Rearm, Renew, Take, Test}
pub use Rattle.irp_core.specs.declared.step.Made.{Made}
pub use Rattle.irp_core.specs.declared.step.Step.{Step}
pub use Rattle.std.proofs.Math.Bool.{and-false, or-false, or-true}
pub use Rattle.std.proofs.lemmas.Bool.{and_parts, le-ltb, lt-ltb, ne_eqb, not-false, not-true, or_left, or_right}
pub use Rattle.std.proofs.lemmas.Fmt.{IsAscii-decimal, decimal_injective, digits_decimal, length-decimal-le, parse-decimal}
pub use Rattle.std.proofs.lemmas.List.{get_or-replicate, get_or-set_other, get_or-set_same, get_or_default, length-map, length-replicate, length-set, map-append, nil_from_length, take_all, take_more}
pub use Rattle.std.proofs.lemmas.List.Elements.{All-append, All-cons, All-nil, filter-append}
pub use Rattle.std.proofs.lemmas.List.Splits.{join_with_byte-slice_split, length-slice_split, slice_split_at, slice_split_first, slice_split_none}
pub use Rattle.std.proofs.lemmas.Str.{IsAscii-append, IsUtf8-from_ascii}
pub use Rattle.std.specs.List.{All, join_with_byte, list_all, position_or_len}
pub use Rattle.std.specs.Prelude.{MatchOption, nat_eq, nat_lt, position, slice_index, slice_index_or, slice_set, ◌==◌}
pub use Rattle.std.specs.Str.{IsAscii}
pub use Rattle.std.specs.Str.Parse.{AllDigits, IsNumeral, ParsesUnsigned, digits_value, without_leading_plus}
