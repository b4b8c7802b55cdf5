-- The names that several proof files of this crate import, each from its home.
pub use Rattle.csq_explain.specs.Executions.{Explains, Follows, IsStatusAfter, status_of_place}
pub use Rattle.csq_explain.specs.Explaining.{ExplainsLine, IsExplainedClosing, claim_remark, explained_claims, explained_irps, explained_rest, explained_text, remark}
pub use Rattle.csq_explain.specs.Irps.{all_irps, irp_at, irp_moved, irp_state, irps_moved, new_irp}
pub use Rattle.csq_explain.specs.Passes.{all_passes, new_pass_now, pass_after, pass_now, passes_now}
pub use Rattle.csq_explain.specs.Reasons.{reason_by, reason_of, reason_text}
pub use Rattle.csq_explain.specs.Sentences.{in_call, sentence, status_at}
pub use Rattle.csq_explain.specs.declared.sentences.StepInCall.{StepInCall}
pub use Rattle.csq_replay.proofs.Closings.{comes_of_size, grew_more, reported_more}
pub use Rattle.csq_replay.specs.Schedule.{AreReportedOf, Numbered, claim_line, irp_line_text, run_of}
pub use Rattle.csq_replay.specs.declared.schedule.closing.IrpLine.{IrpLine}
pub use Rattle.csq_replay.specs.declared.schedule.outcome.Outcome.TheVariants.{Accepted, Skipped, Stopped}
pub use Rattle.irp_core.proofs.Names.{named, same_irp-refl, same_pass-eq, same_pass-refl}
pub use Rattle.irp_core.specs.MachineState.{Agrees, MachineState, size_of}
pub use Rattle.irp_core.specs.Runs.{IsRun, Size}
pub use Rattle.irp_core.specs.declared.step.Made.{Made}
