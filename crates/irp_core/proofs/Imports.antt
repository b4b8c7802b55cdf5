-- The names that several proof files of this crate import, each from its home.
pub use Rattle.irp_core.specs.Begun.{Begun}
pub use Rattle.irp_core.specs.Completion.{IsPlace, completed_by, holds_removed, removed, status_due}
pub use Rattle.irp_core.specs.Inside.{after_disarm, after_test, follows, has_lock, in_insert, inside, inside_after, is_outside}
pub use Rattle.irp_core.specs.Lives.{HasBegun, IsPresent, last_life, present, present_life, renews}
pub use Rattle.irp_core.specs.Lock.{HasLock, KeepsLock, needs_lock}
pub use Rattle.irp_core.specs.MachineState.{Agrees, IsReached, MachineState, flag_at, inside_at, present_at, size_of, standing_at}
pub use Rattle.irp_core.specs.Owners.{claims, dones, has_gone, holds, is_claim, listed, owes, rearms, taken}
pub use Rattle.irp_core.specs.Programs.{Act, AreMisses, ArePrograms, IsBegun, IsInside, IsProgram, steps_of}
pub use Rattle.irp_core.specs.Runs.{EachRun, EachRunFrom, IsAtRest, IsInLargeLimits, IsRun, MayFollow, MayTouch, OfIrp, Size}
pub use Rattle.irp_core.specs.Standings.{IsStanding, is_finished, is_free, is_held_by, is_owed_by, is_removed_by, is_waiting, moved, names, place_of, standing_after, stands_home, stands_listed}
pub use Rattle.irp_core.specs.Steps.{Each, by, found_one, is, life_of, number, own, same_kind, since}
unfoldable pub use Rattle.irp_core.specs.Steps.{same_id, same_irp, same_pass}
pub use Rattle.irp_core.specs.TableSteps.{first_of_two, flags_after, found_at, irp_refusal, is_armed_at, is_held_at, is_listed_at, is_owed_at, is_past, is_present, is_removed_at, knows_irp, knows_pass, lives_after, lock_after, lock_refusal, new_state, refusal_of, released, standings_after, state_after, state_at_rest, was_armed_at, with_moved}
pub use Rattle.irp_core.specs.Words.{armed, bit, flagged, found_by, routine, was_armed}
pub use Rattle.irp_core.specs.declared.ids.IrpId.{IrpId}
pub use Rattle.irp_core.specs.declared.ids.IrpLife.{IrpLife}
pub use Rattle.irp_core.specs.declared.ids.Life.{Life}
pub use Rattle.irp_core.specs.declared.ids.PassId.{PassId}
pub use Rattle.irp_core.specs.declared.inside.Inside.{Inside}
pub use Rattle.irp_core.specs.declared.inside.Inside.TheVariants.{Armed, Cancelling, FlagSeen, FlagSeenAgain, Nothing, Rearmed, Removing}
pub use Rattle.irp_core.specs.declared.standing.Standing.{Standing}
pub use Rattle.irp_core.specs.declared.standing.Standing.TheVariants.{Finished, Held, Home, Owed, Waiting}
pub use Rattle.irp_core.specs.declared.step.Kind.{Kind}
pub use Rattle.irp_core.specs.declared.step.Kind.TheVariants.{Arm, Disarm, Done, End, Flag, Out, Rearm, Renew, Take, Test}
pub use Rattle.irp_core.specs.declared.step.Made.{Made}
pub use Rattle.std.proofs.lemmas.Bool.{and_from, and_parts, cases_lt, false_from_ne_true, le-leb, or_right}
pub use Rattle.std.proofs.lemmas.List.{append-nil, get_or-replicate, get_or-set_other, get_or-set_same, get_or_default, get_or_past, length-replicate, length-set}
pub use Rattle.std.specs.List.{list_all, list_any}
