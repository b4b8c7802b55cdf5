use Rattle.std.proofs.Common.{◌≡◌, Some, is_some, ap, ◌∙◌, arith}
use Rattle.std.proofs.lemmas.List.{get_or_default}
use Rattle.request_table.specs.Stages.{file_of}
use Rattle.request_table.specs.Requests.{Requests, stage_of, due_of}
use Rattle.request_table.proofs.Keeping.{counted-one, room-for, kept-finished}
use Rattle.request_table.proofs.table.RequestTable.let_go.Given.{Over}
use Rattle.request_table.proofs.table.RequestTable.let_go.Goals as goal
use Rattle.request_table.proofs.table.RequestTable.let_go.Goals.{Start}

file-of : (g : Over) (c : Start g) (r : Requests) → r ≡ c.args.self.now → file_of (stage_of r c.args.irp) ≡ Some c.args.file
file-of g c r is = ap (λ (q : Requests). file_of (stage_of q c.args.irp)) is ∙ c.requires.file

pub index_mut-requires : goal.index_mut-requires
index_mut-requires g c = let one = counted-one c.self.invariant c.args.irp c.args.file (file-of g (goal.at.index_mut-requires g c).Start _ c.self.view_is) in omega (arith, one.0)

pub overflow_sub-index_mut : goal.overflow_sub-index_mut
overflow_sub-index_mut g c =
    let one = counted-one c.self.invariant c.args.irp c.args.file (file-of g (goal.at.overflow_sub-index_mut g c).Start _ c.self.view_is) in
    omega (arith, one.1, c.index_mut.ensures.value, get_or_default c.self.inside.lens.items c.args.file.0 c.index_mut.result.now 0 one.0)

pub overflow_sub-self : goal.overflow_sub-self
overflow_sub-self g c = (counted-one c.self.invariant c.args.irp c.args.file (file-of g (goal.at.overflow_sub-self g c).Start _ c.self.view_is)).2

pub put_back-requires : goal.put_back-requires
put_back-requires g c =
    let room = room-for c.self.invariant c.args.irp (ap is_some (file-of g (goal.at.put_back-requires g c).Start _ c.self.view_is)) in
    omega (arith, room)

pub invariant_of-self : goal.invariant_of-self
invariant_of-self g c =
    let file = file-of g (goal.at.invariant_of-self g c).Start _ c.self.view_is in
    let one = counted-one c.self.invariant c.args.irp c.args.file file in
    rw (c.index_mut.ensures.value ∙ get_or_default c.self.inside.lens.items c.args.file.0 c.index_mut.result.now 0 one.0, c.put_back.ensures.room, c.put_back.ensures.free, c.stage_after.ensures)
    (kept-finished c.self.invariant c.args.irp c.args.file c.args.spent file (ap (λ (q : Requests). due_of q c.args.irp) c.self.view_is ∙ c.requires.due))
