use Rattle.std.proofs.Common.{◌&&◌, None, refl, sym, ap, ◌∙◌}
use Rattle.csq_replay.proofs.Imports.{and_parts, same_irp, IrpLife, Nothing, Disarm, same_irp-eq, is_listed, Any, Remove, next_step, present_of}
use Rattle.csq_replay.proofs.Going.{starts, may_end, may_as, present_is}
use Rattle.csq_replay.proofs.Calling.{unknown_keeps}
use Rattle.csq_replay.proofs.Removing.{removed_keeps, marked_keeps, marked_may_end, unlisted_keeps, seeks_first, may_disarm_next}
use Rattle.csq_replay.proofs.script.driver.Driver.remove.Goals as goal

pub returns-then-not-is_known : goal.returns-then-not-is_known
returns-then-not-is_known g c = λ l s k. unknown_keeps l _ s k (Remove c.args.name) c.args.name.irp refl (λ known. let t = c.is_known.ensures.1 known in cc)

pub make-requires : goal.make-requires
make-requires g c =
    let (l, s, k) = c.requires in
    may_end _ s.run Nothing (starts l _ s k) refl

pub returns-then-not-lists : goal.returns-then-not-lists
returns-then-not-lists g c = λ l s k.
    let i = c.args.name in
    let listed = is_listed (g.L.PendingList.listing c.args.self.now.list).entries i.irp in
    let there = c.lists.ensures s.run k.agrees ∙ ap (λ (x : IrpLife). same_irp x i && listed) (present_is l _ s k i.irp) in
    unlisted_keeps l _ s k i (c.is_known.ensures.0 c.if-not-is_known.false) (sym there ∙ c.if-not-lists.true) _ (c.make.ensures.made s.run k.agrees).0 c.make.ensures.size

pub make-requires-2 : goal.make-requires-2
make-requires-2 g c =
    let (l, s, k) = c.requires in
    let i = c.args.name in
    let listed = is_listed (g.L.PendingList.listing c.args.self.now.list).entries i.irp in
    let there = c.lists.ensures s.run k.agrees ∙ ap (λ (x : IrpLife). same_irp x i && listed) (present_is l _ s k i.irp) in
    let both = and_parts (same_irp (present_of s i.irp) i) listed (sym there ∙ c.if-not-lists.false) in
    let now = same_irp-eq (present_of s i.irp) i both.0 in
    may_as _ Disarm i (present_of s i.irp) (sym now) (may_disarm_next l _ s k Any _ None (seeks_first l _ s k Any) (g.met.L.PendingList.sound c.args.self.now.list) refl i.irp both.1)

pub make-requires-then-make-ne1 : goal.make-requires-then-make-ne1
make-requires-then-make-ne1 g c =
    let (l, s, k) = c.requires in
    let made = c.make-2.ensures.made s.run k.agrees in
    marked_may_end l _ s k c.args.name _ _ made.0 c.make-2.ensures.size made.1 c.if-make-ne1.true

pub returns-then-make-ne1 : goal.returns-then-make-ne1
returns-then-make-ne1 g c = λ l s k.
    let i = c.args.name in
    let listed = is_listed (g.L.PendingList.listing c.args.self.now.list).entries i.irp in
    let there = c.lists.ensures s.run k.agrees ∙ ap (λ (x : IrpLife). same_irp x i && listed) (present_is l _ s k i.irp) in
    let both = and_parts (same_irp (present_of s i.irp) i) listed (sym there ∙ c.if-not-lists.false) in
    let made = c.make-2.ensures.made s.run k.agrees in
    let ended = c.make-then-make-ne1.ensures.made (next_step s.run (Disarm i)) made.0 in
    marked_keeps l _ s k i (c.is_known.ensures.0 c.if-not-is_known.false) (same_irp-eq (present_of s i.irp) i both.0) both.1 _ _ ended.0 (c.make-then-make-ne1.ensures.size ∙ c.make-2.ensures.size) made.1 c.if-make-ne1.true

pub returns : goal.returns
returns g c = λ l s k.
    let i = c.args.name in
    let listed = is_listed (g.L.PendingList.listing c.args.self.now.list).entries i.irp in
    let there = c.lists.ensures s.run k.agrees ∙ ap (λ (x : IrpLife). same_irp x i && listed) (present_is l _ s k i.irp) in
    let both = and_parts (same_irp (present_of s i.irp) i) listed (sym there ∙ c.if-not-lists.false) in
    let made = c.make-2.ensures.made s.run k.agrees in
    removed_keeps l _ s k i (c.is_known.ensures.0 c.if-not-is_known.false) (same_irp-eq (present_of s i.irp) i both.0) both.1 _ _ made.0 c.make-2.ensures.size made.1 c.if-make-ne1.false _ c.remove.ensures
