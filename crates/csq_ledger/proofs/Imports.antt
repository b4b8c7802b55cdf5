-- The names that several proof files of this crate import, each from its home.
pub use Rattle.csq_queue.specs.Effects.{AddsEvents}
pub use Rattle.csq_queue.specs.Named.{pass_numbered, queue_size}
pub use Rattle.csq_words.proofs.Facts.{held_gone, later_new, listed_now, taken_flagged}
pub use Rattle.csq_words.proofs.Marks.{marked_taken}
pub use Rattle.csq_words.specs.History.{IsLegal, end_of}
pub use Rattle.csq_words.specs.Queue.{Limits, QueueState, has_entry, has_irp, has_marked, present_in}
pub use Rattle.csq_words.specs.Records.{entries_of}
pub use Rattle.csq_words.specs.Rule.{AreTrueOf}
pub use Rattle.csq_words.specs.Traces.{steps_in}
pub use Rattle.csq_words.specs.declared.views.Event.{Event}
pub use Rattle.csq_words.specs.declared.views.HistoryEntry.{HistoryEntry}
pub use Rattle.csq_words.specs.declared.views.PassRecord.{PassRecord}
pub use Rattle.irp_core.proofs.Growing.{run_last, run_less, run_none}
pub use Rattle.irp_core.proofs.Names.{named, other_irp, same_id-refl, same_irp-eq, same_irp-refl}
pub use Rattle.irp_core.proofs.Own.{holds_in-own, inside_of-own, owes_in-own, own-mine, own-other}
pub use Rattle.irp_core.proofs.Owning.{listed_owed, watched}
pub use Rattle.irp_core.specs.Inside.{inside}
pub use Rattle.irp_core.specs.Lives.{IsPresent, present_life}
pub use Rattle.irp_core.specs.Own.{holds_in, inside_of, owes_in, removed_in}
pub use Rattle.irp_core.specs.Owners.{holds, listed, owes, taken}
pub use Rattle.irp_core.specs.Runs.{IsRun, Size}
pub use Rattle.irp_core.specs.Steps.{by, life_of, number, own, same_irp}
pub use Rattle.irp_core.specs.Words.{armed, flagged, was_armed}
pub use Rattle.irp_core.specs.declared.ids.FileId.{FileId}
pub use Rattle.irp_core.specs.declared.ids.IrpId.{IrpId}
pub use Rattle.irp_core.specs.declared.ids.IrpLife.{IrpLife}
pub use Rattle.irp_core.specs.declared.ids.PassId.{PassId}
pub use Rattle.irp_core.specs.declared.inside.Inside.TheVariants.{Nothing}
pub use Rattle.irp_core.specs.declared.step.Made.{Made}
pub use Rattle.std.proofs.lemmas.Bool.{false_from_ne_true, or_right}
pub use Rattle.csq_ledger.specs.Singles.{IsSameIn, IsSingle, IsWholeRun, Leaves, Single, Spot, spot, spot_of}
