-- The names that several proof files of this crate import, each from its home.
pub use Rattle.csq_list.specs.ChainSteps.{HasRecord, KeepsKeys, SameBut, beside, other, reads_at, relinked, same_place, with_back_link, with_links, with_next_link, with_record}
pub use Rattle.csq_list.specs.Chains.{HasRecords, IsChain, IsKept, Reads, chain_entries, entries_from, file_in, links_at, links_of, record_at, unlinked, unlisted}
pub use Rattle.csq_list.specs.Counts.{is_near, of_its_file, reads_beside, reads_to_peek, rest_from, takes, up_to_match}
pub use Rattle.csq_list.specs.Listing.{IsFresh, IsSound, Listing, file_len, fresh, inserted, is_file_full, put_at, renewed, without_irp}
pub use Rattle.csq_list.specs.Positions.{HasGapAt, HasPositions, first_at, or_at, position_at, position_from, with_positions}
pub use Rattle.csq_list.specs.Searches.{IsStartIn, after_first_that, entries_without, first_match, is_distinct, is_listed, is_of, matches, of_file, rest_after, same_file}
pub use Rattle.csq_list.specs.VecParts.{HasFileLens, listing_of}
pub use Rattle.csq_list.specs.declared.entry.Entry.{Entry}
pub use Rattle.csq_list.specs.declared.entry.Peek.{Peek}
pub use Rattle.csq_list.specs.declared.entry.Peek.TheVariants.{Any, File}
pub use Rattle.csq_list.specs.declared.entry.Place.{Place}
pub use Rattle.csq_list.specs.declared.entry.Place.TheVariants.{Back, Front}
pub use Rattle.csq_list.specs.declared.links.Chain.TheVariants.{Listed, OfFile}
pub use Rattle.csq_list.specs.declared.links.Links.{Links}
pub use Rattle.csq_list.specs.declared.links.Record.{Record}
pub use Rattle.irp_core.proofs.ByTest.{by_test, by_value}
pub use Rattle.irp_core.proofs.Names.{same_id-eq, same_id-ne, same_id-refl}
unfoldable pub use Rattle.irp_core.specs.Steps.{same_id}
pub use Rattle.irp_core.specs.declared.ids.FileId.{FileId}
pub use Rattle.irp_core.specs.declared.ids.IrpId.{IrpId}
pub use Rattle.std.proofs.Math.Bool.{or-false, or-true, or_comm}
pub use Rattle.std.proofs.lemmas.Bool.{and_parts, lt-leb, ltb-true, not-true, or_cases, or_from, or_left, or_parts, or_right}
pub use Rattle.std.proofs.lemmas.List.{append-nil, append_assoc, drop_all, drop_at, get_or_past, get_or_read, length-map, length-replicate, length-take-le, reverse-append, reverse-reverse, take-append-drop, take_all, take_at, take_rest}
pub use Rattle.std.proofs.lemmas.List.Elements.{All-cons, All-head, All-nil, All-tail, filter-append}
pub use Rattle.std.proofs.lemmas.List.Folds.{list_any-append}
pub use Rattle.std.specs.List.{All, AllByRecursion, find, list_all, list_any}
unfoldable pub use Rattle.std.specs.List.{IsDistinct}
pub use Rattle.std.specs.VecDeque.Iter.{deque_iter_rest}
