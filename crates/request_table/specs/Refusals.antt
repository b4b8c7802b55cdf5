-- Why no request begins.
use Rattle.std.specs.Prelude.{◌==◌, nat_le, Bool, false, List, [], ◌∷◌, length, slice_index_or, Option}
use Rattle.std.specs.List.{find, list_all}
use Rattle.irp_core.specs.declared.ids.FileId.{FileId}
use Rattle.request_table.specs.declared.refusals.BeginRefused.{BeginRefused, TheVariants.{UnknownFile, Closed, FileClosed, AllSpent, AllUnderWay}}
use Rattle.request_table.specs.Stages.{is_spent}
use Rattle.request_table.specs.Requests.{Requests}

-- the causes, in the order in which they are tested
abbrev pub causes : List BeginRefused
causes = UnknownFile ∷ Closed ∷ FileClosed ∷ AllSpent ∷ AllUnderWay ∷ []

-- whether a cause holds of a request for a file
abbrev pub is_cause : Requests → FileId → BeginRefused → Bool
is_cause r f UnknownFile = nat_le (length r.closed_files) f.0
is_cause r f Closed = r.closed
is_cause r f FileClosed = slice_index_or r.closed_files f.0 false
is_cause r f AllSpent = list_all is_spent r.stages
is_cause r f AllUnderWay = length r.free == 0

-- the first cause that holds, if one does
abbrev pub refusal_to_begin : Requests → FileId → Option BeginRefused
refusal_to_begin r f = find (is_cause r f) causes
