use Rattle.std.proofs.Common.{ap, arith}
use Rattle.csq_replay.proofs.Imports.{Listing, listed_few}
use Rattle.csq_replay.proofs.Cleaning.{cleans_first, cleans_more, cleans_nearer, cleans_few, cleans_all, got_known, got_held, entries_length}
use Rattle.csq_replay.proofs.script.driver.Driver.remove_all.Goals as goal

pub loop-removed-init : goal.loop-removed-init
loop-removed-init g c = λ l s k. cleans_first l c.args.file s _ k

pub next-requires : goal.next-requires
next-requires g c =
    let (l, s, k) = c.requires in
    let h = c.loop-removed.invariant l s k in
    (l, h.now, h.keeps)

pub finish-requires : goal.finish-requires
finish-requires g c =
    let (l, s, k) = c.requires in
    let h = c.loop-removed.invariant l s k in
    let (t, next, kept) = c.in-Some.ensures l h.now h.keeps in
    let sound = g.met.L.PendingList.sound c.loop-removed.self.list in
    (l, t, kept, got_known l c.args.file s _ _ h sound c.in-Some.removed t next, got_held l c.args.file s _ _ h sound c.in-Some.removed t next)

pub loop-removed-smaller : goal.loop-removed-smaller
loop-removed-smaller g c =
    let (l, s, k) = c.requires in
    let h = c.loop-removed.invariant l s k in
    let (t, next, kept) = c.in-Some.ensures l h.now h.keeps in
    cleans_nearer l c.args.file s _ _ h (g.met.L.PendingList.sound c.loop-removed.self.list) c.in-Some.removed t next _ (rw c.cancelled.ensures at (c.finish.ensures l t kept))

pub overflow_add-completed : goal.overflow_add-completed
overflow_add-completed g c =
    let (l, s, k) = c.requires in
    let h = c.loop-removed.invariant l s k in
    let (t, next, kept) = c.in-Some.ensures l h.now h.keeps in
    let few = cleans_few l c.args.file s _ _ h (g.met.L.PendingList.sound c.loop-removed.self.list) c.in-Some.removed t next in
    let listed = listed_few _ (g.met.L.PendingList.sound c.args.self.now.list) in
    let irps = ap (λ (x : Listing). x.irps) k.listing in
    omega (arith, few, listed, irps, k.few, entries_length l _ s k)

pub loop-removed-preserved : goal.loop-removed-preserved
loop-removed-preserved g c = λ l s k.
    let h = c.loop-removed.invariant l s k in
    let (t, next, kept) = c.in-Some.ensures l h.now h.keeps in
    cleans_more l c.args.file s _ _ h (g.met.L.PendingList.sound c.loop-removed.self.list) c.in-Some.removed t next _ (rw c.cancelled.ensures at (c.finish.ensures l t kept))

pub returns : goal.returns
returns g c = λ l s k.
    let h = c.loop-removed.invariant l s k in
    let (t, next, kept) = c.in_default.ensures l h.now h.keeps in
    (t, cleans_all l c.args.file s _ _ h t next, kept)
