use Rattle.std.proofs.Common.{◌≡◌, true, Some, None, refl, ap, ◌∙◌, subst, arith}
use Rattle.csq_replay.proofs.Imports.{Size, Disarm, Listing, without_irp, is_listed, rest_after, present_of}
use Rattle.csq_list.specs.Searches as plainly
use Rattle.csq_replay.proofs.Going.{may_end, made_as, may_as}
use Rattle.csq_replay.proofs.Calling.{keeps_as}
use Rattle.csq_replay.proofs.Removing.{seeks_first, seeks_name, listed_known, may_disarm_next, seeks_more, seeks_hit, seeks_end}
use Rattle.csq_replay.proofs.script.driver.Driver.next.Goals as goal

pub loop-irp-init : goal.loop-irp-init
loop-irp-init g c = record { list = refl; statuses = refl; files = refl; size = refl; place = tt; seeks = λ l s k. seeks_first l _ s k c.args.peek }

pub present-name-requires : goal.present-name-requires
present-name-requires g c =
    let (l, s, k) = c.requires in
    let i = c.loop-irp.invariant in
    let same = ap g.L.PendingList.listing i.list in
    let there = subst (λ (x : Listing). is_listed x.entries c.in-Some.irp ≡ true) same c.in-Some.ensures.start in
    let known = listed_known l _ s k (g.met.L.PendingList.sound c.args.self.now.list) c.in-Some.irp there in
    omega (arith, known, ap (λ (n : Size). n.irps) i.size)

pub make-requires : goal.make-requires
make-requires g c =
    let (l, s, k) = c.requires in
    let i = c.loop-irp.invariant in
    let h = i.seeks l s k in
    let same = ap g.L.PendingList.listing i.list in
    let there = subst (λ (x : Listing). is_listed x.entries c.in-Some.irp ≡ true) same c.in-Some.ensures.start in
    let e = c.present-name.ensures h.run h.goes.agrees ∙ seeks_name l _ s k c.args.peek _ c.loop-irp.after h i.size c.in-Some.irp in
    may_as _ Disarm _ _ e (may_disarm_next l _ s k c.args.peek _ c.loop-irp.after h (g.met.L.PendingList.sound c.args.self.now.list) i.size c.in-Some.irp there)

pub returns-then-make-eq1 : goal.returns-then-make-eq1
returns-then-make-eq1 g c = λ l s k.
    let i = c.loop-irp.invariant in
    let h = i.seeks l s k in
    let same = ap g.L.PendingList.listing i.list in
    let found = subst (λ (x : Listing). Some c.in-Some.irp ≡ plainly.first_match c.args.peek (rest_after c.loop-irp.after x.entries)) same c.in-Some.ensures.found in
    let e = c.present-name.ensures h.run h.goes.agrees ∙ seeks_name l _ s k c.args.peek _ c.loop-irp.after h i.size c.in-Some.irp in
    let made = made_as _ _ h.run Disarm _ (present_of s c.in-Some.irp) e (c.make.ensures.made h.run h.goes.agrees) in
    let hit = seeks_hit l _ s k c.args.peek _ c.loop-irp.after h c.in-Some.irp found i.size _ _ made.0 (c.make.ensures.size ∙ i.size) made.1 c.if-make-eq1.true _ (c.remove.ensures ∙ ap (without_irp c.in-Some.irp) same) in
    (hit.0, hit.1, keeps_as l _ _ hit.0 hit.2 refl refl (ap (λ v. v.items) i.statuses) (ap (λ v. v.items) i.files))

pub loop-irp-preserved : goal.loop-irp-preserved
loop-irp-preserved g c =
    let i = c.loop-irp.invariant in
    let same = ap g.L.PendingList.listing i.list in
    let there = subst (λ (x : Listing). is_listed x.entries c.in-Some.irp ≡ true) same c.in-Some.ensures.start in
    let found = subst (λ (x : Listing). Some c.in-Some.irp ≡ plainly.first_match c.args.peek (rest_after c.loop-irp.after x.entries)) same c.in-Some.ensures.found in
    record {
      list = i.list;
      statuses = i.statuses;
      files = i.files;
      size = c.make.ensures.size ∙ i.size;
      place = there;
      seeks = λ l s k.
          let h = i.seeks l s k in
          let e = c.present-name.ensures h.run h.goes.agrees ∙ seeks_name l _ s k c.args.peek _ c.loop-irp.after h i.size c.in-Some.irp in
          let made = made_as _ _ h.run Disarm _ (present_of s c.in-Some.irp) e (c.make.ensures.made h.run h.goes.agrees) in
          seeks_more l _ s k c.args.peek _ c.loop-irp.after h c.in-Some.irp found (g.met.L.PendingList.sound c.args.self.now.list) _ _ made.0 c.make.ensures.size made.1 c.if-make-eq1.false;
    }

pub make-requires-2 : goal.make-requires-2
make-requires-2 g c =
    let (l, s, k) = c.requires in
    let h = c.loop-irp.invariant.seeks l s k in
    may_end _ h.run h.at h.goes h.may

pub returns : goal.returns
returns g c = λ l s k.
    let i = c.loop-irp.invariant in
    let h = i.seeks l s k in
    let made = c.make-2.ensures.made h.run h.goes.agrees in
    let same = ap g.L.PendingList.listing i.list in
    let none = subst (λ (x : Listing). None ≡ plainly.first_match c.args.peek (rest_after c.loop-irp.after x.entries)) same c.in_default.ensures.found in
    let ended = seeks_end l _ s k c.args.peek _ c.loop-irp.after h none _ made.0 (c.make-2.ensures.size ∙ i.size) in
    (ended.0, ended.1, keeps_as l _ _ ended.0 ended.2 refl (ap g.L.PendingList.listing i.list) (ap (λ v. v.items) i.statuses) (ap (λ v. v.items) i.files))
