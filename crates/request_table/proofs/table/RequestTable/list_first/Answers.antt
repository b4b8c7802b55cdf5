use Rattle.std.proofs.Common.{◌<◌, length, ap, ◌∙◌, arith, length-set, get_or-set_same}
use Rattle.std.proofs.lemmas.List.{get_or_default}
use Rattle.request_table.specs.declared.stage.Stage.TheVariants.{Listed, Spent}
use Rattle.request_table.specs.Stages.{is_for, is_under_way, may_be_due}
use Rattle.request_table.specs.Requests.{Requests}
use Rattle.request_table.proofs.Counting.{count-le}
use Rattle.request_table.proofs.Keeping.{first-known, kept-begun, may-begin}
use Rattle.request_table.proofs.table.RequestTable.list_first.Given.{Over}
use Rattle.request_table.proofs.table.RequestTable.list_first.Goals as goal
use Rattle.request_table.proofs.table.RequestTable.list_first.Goals.{In-Some}

known-file : (g : Over) (c : In-Some g) → c.args.file.0 < length c.self.inside.lens.items
known-file g c =
    let file = may-begin c.args.self.now c.args.file c.requires in
    omega (arith, file, ap (λ (r : Requests). length r.closed_files) c.self.view_is, c.self.invariant.each_file)

known : (g : Over) (c : In-Some g) → c.in-Some.irp.0 < length c.self.inside.stages.items
known g c =
    first-known c.self.invariant.sound c.in-Some.irp c.pop_front.new.self.items c.in-Some.ensures.items

pub index_mut-requires : goal.index_mut-requires
index_mut-requires g c = let file = known-file g (goal.at.index_mut-requires g c).In-Some in omega (arith, file)

pub overflow_add-index_mut : goal.overflow_add-index_mut
overflow_add-index_mut g c =
    let len = get_or_default c.self.inside.lens.items c.args.file.0 c.index_mut.result.now 0 (known-file g (goal.at.overflow_add-index_mut g c).In-Some) in
    omega (arith, len, c.index_mut.ensures.value, c.self.invariant.counted c.args.file, count-le (is_for c.args.file) c.self.inside.stages.items, c.self.invariant.few)

pub overflow_add-self : goal.overflow_add-self
overflow_add-self g c = omega (arith, c.self.invariant.all_counted, count-le is_under_way c.self.inside.stages.items, c.self.invariant.few)

pub index_mut-requires-2 : goal.index_mut-requires-2
index_mut-requires-2 g c = let irp = known g (goal.at.index_mut-requires-2 g c).In-Some in omega (arith, irp)

pub returns-clause-known : goal.returns-clause-known
returns-clause-known g c =
    let irp = known g (goal.at.returns-clause-known g c).In-Some in
    omega (arith, irp, length-set c.self.inside.stages.items c.in-Some.irp.0 (Listed c.args.file))

pub returns-clause-waits : goal.returns-clause-waits
returns-clause-waits g c = ap may_be_due (get_or-set_same c.self.inside.stages.items c.in-Some.irp.0 (Listed c.args.file) Spent (known g (goal.at.returns-clause-waits g c).In-Some))

pub invariant_of-self : goal.invariant_of-self
invariant_of-self g c =
    let file = known-file g (goal.at.invariant_of-self g c).In-Some in
    rw (c.index_mut.ensures.value ∙ get_or_default c.self.inside.lens.items c.args.file.0 c.index_mut.result.now 0 file, c.in-Some.ensures.capacity)
    (kept-begun c.self.invariant c.in-Some.irp c.args.file c.pop_front.new.self.items c.in-Some.ensures.items file)
