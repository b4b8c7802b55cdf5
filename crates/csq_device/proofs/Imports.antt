-- The names that several proof files of this crate import, each from its home.
pub use Rattle.csq_device.specs.Duties.{AreCallsBy, AreCallsOf, AreCallsOfAll, AreFew, AreNumbered, cancels_by, completed_by, duties_from, duties_of, inserts_by, put_backs_by, removals_by, total_by, turns_with_irp}
pub use Rattle.csq_device.specs.Rests.{IsRest, completed_count, flagged_count, home_count, irp_at, is_status, status_count}
pub use Rattle.csq_device.specs.Served.{AreReceipts, AreServed, HasServed, IsShift, completions_of, has_reuse, is_reuse}
pub use Rattle.csq_device.specs.Turns.{AreInserts, AreRemovals, CancelTakes, Cancels, CancelsEach, CancelsOne, CleansUp, IsInsertOf, IsRemoval, IsTurns, MakesCalls, Plays, PutsEachBack, PutsOneBack, Submits, in_first_life, last_file, roles_in}
pub use Rattle.csq_device.specs.Work.{HasCompleted, OwnsNothing, completions, status_by}
pub use Rattle.csq_device.specs.declared.kinds.CallsByKind.{CallsByKind}
pub use Rattle.csq_device.specs.declared.plan.Plan.{Plan}
pub use Rattle.csq_device.specs.declared.roles.Role.{Role}
pub use Rattle.csq_device.specs.declared.roles.Role.TheVariants.{BusyWorker, Canceller, Submitter, Worker}
pub use Rattle.csq_list.specs.Listing.{IsSound, Listing, is_home}
pub use Rattle.csq_list.specs.declared.entry.Peek.TheVariants.{Any}
pub use Rattle.csq_list.specs.declared.entry.Place.TheVariants.{Back, Front}
pub use Rattle.csq_queue.proofs.Counting.{by_number, tally_bound, tally_more, tally_same, tally_zero}
pub use Rattle.csq_queue.proofs.Giving.{GivesOut, insert_gives, remove_next_gives}
pub use Rattle.csq_queue.specs.Cleanups.{CompletesAll, cancelled_by, cleanup_calls, removals}
pub use Rattle.csq_queue.specs.Counts.{held_count, owed_count, tally}
pub use Rattle.csq_queue.specs.Inserts.{IsInsert, IsPutBack, given_by}
pub use Rattle.csq_queue.specs.Named.{is_back, pass_numbered, queue_size}
pub use Rattle.csq_queue.specs.Rests.{FirstAreBack, HoldsNothing, IsLeftCompleted, IsLeftHome, IsLeftListed, IsRestOf}
pub use Rattle.csq_queue.specs.declared.tokens.InsertAnswer.{InsertAnswer}
pub use Rattle.csq_words.specs.Finals.{FinalWords, IsFinal, final_status, is_cancelled}
pub use Rattle.csq_words.specs.History.{calls_of, end_of, is_call}
pub use Rattle.csq_words.specs.Queue.{Limits, QueueState, after_event, present_in, has_marked, has_unmarked}
pub use Rattle.csq_words.specs.Records.{entries_of, only_calls, queue_of, saw, with_completion, with_step}
pub use Rattle.csq_words.specs.declared.views.Completion.{Completion}
pub use Rattle.csq_words.specs.declared.views.HistoryEntry.{HistoryEntry}
pub use Rattle.csq_words.specs.declared.views.Event.{Event}
pub use Rattle.csq_words.specs.declared.views.Event.TheVariants.{CloseFile, FlagSeen, Insert, Mark, Out, PutBack, Remove, RemoveNext, Reuse}
pub use Rattle.csq_words.specs.declared.views.PassRecord.{PassRecord}
pub use Rattle.irp_core.proofs.Names.{other_irp, same_irp-refl, same_pass-is, same_pass-not, same_pass-refl}
pub use Rattle.irp_core.specs.Runs.{IsKnown, IsRun, Size}
pub use Rattle.irp_core.specs.Steps.{Each, number, own, same_irp, same_pass}
unfoldable pub use Rattle.irp_core.specs.Steps.{same_id}
pub use Rattle.irp_core.specs.declared.ids.FileId.{FileId}
pub use Rattle.irp_core.specs.declared.ids.IrpId.{IrpId}
pub use Rattle.irp_core.specs.declared.ids.IrpLife.{IrpLife}
pub use Rattle.irp_core.specs.declared.ids.PassId.{PassId}
pub use Rattle.irp_core.specs.declared.status.NtStatus.{NtStatus}
pub use Rattle.irp_core.specs.declared.status.TheConstants.NtStatus.{CANCELLED, SUCCESS}
pub use Rattle.irp_core.specs.declared.step.Kind.TheVariants.{Disarm, Done, Flag, Rearm, Take, Test}
pub use Rattle.std.proofs.lemmas.Bool.{and_from, and_parts, cases_lt, false_from_ne_true, le-ltb, lt-ltb, not-true, or_parts, or_right}
pub use Rattle.std.specs.List.{range_with_len}
pub use Rattle.std.specs.Vec.Iter.{into_iter_items, into_iter_len}
