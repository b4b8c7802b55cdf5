-- The names that several proof files of this crate import, each from its home.
pub use Rattle.csq_draw.specs.Arrows.{found_at}
pub use Rattle.csq_draw.specs.Drawings.{DrawingStands, Drawn, NotesStep, Shows, drawn_rows, drawn_shown, order_shown, owner_in, with_owner}
pub use Rattle.csq_draw.specs.Elements.{Drew, with_all}
pub use Rattle.csq_draw.specs.Owners.{ended_by, is_of_irp, owner, owner_after, owner_by, owner_named, owners}
pub use Rattle.csq_draw.specs.Passes.{column_of, columns, lock_at, lock_of}
pub use Rattle.csq_draw.specs.Irps.{irp_after, irp_at, irp_named, irps_after, new_irp, with_irp}
pub use Rattle.csq_draw.specs.Pictures.{EndShown, Shown, above_elements, arrow_elements, bars_elements, behind_elements, call_elements, close_of, closed_elements, closing_elements, column_elements, each, elements_of, end_of, fresh_irps, irps_of, last_elements, mark_element, number_element, open_elements, owners_elements, picture_of, refused_elements, row_after, rows_elements, seen, shade_elements, shown_by, shown_elements, span_elements, steps_shown, stop_of, stopped_end, word_elements}
pub use Rattle.csq_draw.specs.declared.irps.IrpNow.{IrpNow}
pub use Rattle.csq_draw.specs.declared.irps.Spot.{Spot}
pub use Rattle.csq_draw.specs.declared.irps.LastSeen.{LastSeen}
pub use Rattle.csq_draw.specs.declared.owners.Owner.{Owner}
pub use Rattle.csq_draw.specs.declared.rows.Row.{Row}
pub use Rattle.csq_explain.proofs.Following.{inside_is, length-passes}
pub use Rattle.csq_explain.proofs.Tables.{count-more, get-table, length-table, position-None, set-table, table-replicate, table-same}
pub use Rattle.csq_explain.specs.Passes.{all_passes, new_pass_now, pass_after, pass_now}
pub use Rattle.csq_explain.specs.Reasons.{reason_of}
pub use Rattle.csq_replay.specs.Lines.{GrewBy}
pub use Rattle.csq_replay.specs.Schedule.{Numbered, run_of}
pub use Rattle.irp_core.proofs.Names.{named, other_irp, same_id-eq, same_id-refl, same_irp-eq, same_irp-refl, same_pass-eq, same_pass-refl}
pub use Rattle.irp_core.specs.Runs.{EachRunFrom, IsRun, OfIrp, Size}
pub use Rattle.irp_core.specs.Steps.{by, name_of, number, same_id, same_irp, same_pass}
pub use Rattle.irp_core.specs.declared.ids.IrpId.{IrpId}
pub use Rattle.irp_core.specs.declared.ids.IrpLife.{IrpLife}
pub use Rattle.irp_core.specs.declared.ids.PassId.{PassId}
pub use Rattle.irp_core.specs.declared.step.Kind.{Kind}
pub use Rattle.irp_core.specs.declared.step.Made.{Made}
pub use Rattle.std.proofs.lemmas.List.{length-take-le, replicate-append-replicate, take_all, take_more}
pub use Rattle.std.specs.Option.{option_map, option_map_or}
