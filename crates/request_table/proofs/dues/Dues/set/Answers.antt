use Rattle.std.proofs.Common.{◌≡◌, ◌<◌, ◌+◌, ◌-◌, ℕ, List, Option, length, drop, set, unwrap_or, subst, sym, ap, ◌∙◌, arith}
use Rattle.std.proofs.lemmas.List.{get_or_default, length-map, length-drop, with_items_is}
use Rattle.request_table.specs.declared.dues.TheConstants.{NEVER}
use Rattle.request_table.specs.Times.{due_at, dues_of}
use Rattle.request_table.proofs.Trees.{due-written, due-same}
use Rattle.request_table.proofs.dues.Dues.set.Goals as goal

pub returns-then-index-time : goal.returns-then-index-time
returns-then-index-time g c =
    let d = c.self.inside in
    let at : d.leaves + c.args.irp.0 - d.leaves ≡ c.args.irp.0 = omega arith in
    let written : drop d.leaves c.write_leaf.new.times ≡ set (drop d.leaves d.times.items) c.args.irp.0 (unwrap_or c.args.due NEVER) =
    c.write_leaf.ensures.times ∙ (λ k. set (drop d.leaves (c.deref_mut.ensures.value k)) (at k) (c.unwrap_or-time.ensures k)) in
    let same : length c.write_leaf.new.times ≡ d.times.len = omega (arith, c.write_leaf.auto.times, ap length c.deref_mut.ensures.value, d.times.ok) in
    ap (dues_of d.leaves) (with_items_is d.times c.write_leaf.new.times same)
    ∙ due-written d.leaves d.times.items c.write_leaf.new.times c.args.irp c.args.due c.requires.time written
    ∙ ap (λ (dues : List (Option ℕ)). set dues c.args.irp.0 c.args.due) c.self.view_is

pub returns-else-index-time : goal.returns-else-index-time
returns-else-index-time g c =
    let d = c.self.inside in
    let within : d.leaves + c.args.irp.0 < length d.times.items = omega (arith, c.requires.known, ap length c.self.view_is, length-map (drop d.leaves d.times.items) due_at, length-drop d.leaves d.times.items) in
    subst (λ (dues : List (Option ℕ)). dues ≡ set dues c.args.irp.0 c.args.due) c.self.view_is
    (due-same d.leaves d.times.items c.args.irp c.args.due c.requires.time within
    (get_or_default d.times.items (d.leaves + c.args.irp.0) 0 c.index.result.now within ∙ sym c.index.ensures ∙ c.if-index-time.false ∙ c.unwrap_or-time.ensures))
