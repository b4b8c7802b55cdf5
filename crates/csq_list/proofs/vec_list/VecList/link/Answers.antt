use Rattle.std.proofs.Common.{◌≡◌, ◌<◌, ℕ, List, true, ap, length, get_or, set, length-set, Some, None, subst, sym, ◌∙◌, rules, arith}
use Rattle.csq_list.proofs.Imports.{is_distinct, IsSound, put_at, HasPositions, position_at, first_at, position_from, listing_of, HasFileLens}
use Rattle.csq_list.proofs.Keeping.{length-put_at}
use Rattle.csq_list.proofs.FileCounting.{filed-small, filed-put}
use Rattle.csq_list.proofs.VecKeeping.{sound-vec_inserted, listing_of-inserted}
use Rattle.csq_list.proofs.Positions.{placed-put, in_range-put}
use Rattle.csq_list.proofs.vec_list.VecList.link.Given.{Over}
use Rattle.csq_list.proofs.vec_list.VecList.link.Goals as goal
use Rattle.csq_list.proofs.vec_list.VecList.link.Goals.{After-put}

pub add-requires-clause-fits : goal.add-requires-clause-fits
add-requires-clause-fits g c =
    let l = c.args.self.now in
    let few = filed-small l.pool.counts.lens.items l.entries.items c.args.entry.file l.filed in
    omega (arith, few, l.sound.within_limit, l.pool.limit_within, l.pool.irps_small)

sound : (g : Over) (c : After-put g) → IsSound (listing_of c.put.new.entries.items (set c.args.self.now.pool.used.items c.args.entry.irp.0 true) c.args.self.now.pool.closed.items c.args.self.now.pool.limit c.args.self.now.pool.counts.limits.items)
sound g c = let l = c.args.self.now in sound-vec_inserted c.args.place c.args.entry l.entries.items _ l.pool.used.items l.pool.closed.items l.pool.limit l.pool.counts.limits.items l.sound c.requires.irp c.requires.file c.requires.unlisted c.requires.room c.requires.file_room c.put.ensures.put

below : (g : Over) (c : After-put g) → c.args.entry.file.0 < length c.args.self.now.pool.counts.lens.items
below g c = let l = c.args.self.now in omega (arith, l.pool.counts.same_files, l.pool.files_counted, c.requires.file)

pub invariant_of-self-3 : goal.invariant_of-self-3
invariant_of-self-3 g c =
    let l = c.args.self.now in
    let e = c.args.entry in
    let at = (goal.at.invariant_of-self-3 g c).After-put in
    let s = sound g at in
    let used = length-set l.pool.used.items e.irp.0 true in
    let limits : c.add.new.self.limits.items ≡ l.pool.counts.limits.items = (λ k. (c.add.ensures.limits k).items) in
    let len : c.len.result ≡ length l.entries.items = search rules in
    let position : c.position-position.result ≡ position_at c.args.place l.first (length l.entries.items) = c.position-position.ensures ∙ ap (position_at c.args.place l.first) len in
    let put = c.put.ensures.put in
    let kept : HasPositions (first_at c.args.place l.first) (set l.positions.items e.irp.0 (Some (position_at c.args.place l.first (length l.entries.items)))) (put_at c.args.place e l.entries.items) =
    placed-put c.args.place l.first e l.entries.items l.positions.items l.placed (ap is_distinct (sym put) ∙ s.distinct) (omega (arith, l.all_placed, c.requires.irp)) c.requires.before in
    let placed : HasPositions c.first-self.result (set l.positions.items e.irp.0 (Some c.position-position.result)) c.put.new.entries.items =
    λ i. ap (λ n. get_or (set l.positions.items e.irp.0 (Some n)) i.0 None) position ∙ kept i ∙ (λ k. position_from (sym c.first-self.ensures k) (sym put k) i) in
    record {
      sound = subst (λ (ns : List ℕ). IsSound (listing_of c.put.new.entries.items (set l.pool.used.items e.irp.0 true) l.pool.closed.items l.pool.limit ns)) (sym limits) s;
      placed = placed;
      all_placed = length-set l.positions.items e.irp.0 (Some c.position-position.result) ∙ l.all_placed ∙ sym used;
      in_range = let fits = in_range-put c.args.place l.first (length l.entries.items) c.requires.before c.requires.behind in omega (arith, fits, c.first-self.ensures, ap length put, length-put_at c.args.place e l.entries.items);
      filed = subst (λ (ns : List ℕ). HasFileLens ns c.put.new.entries.items) (sym c.add.ensures.lens) (filed-put c.args.place e l.entries.items c.put.new.entries.items l.pool.counts.lens.items l.filed (below g at) put);
      room = omega (arith, l.room, c.put.ensures.room);
    }

pub returns : goal.returns
returns g c =
    let l = c.args.self.now in
    (λ k. listing_of (c.put.ensures.put k) (set l.pool.used.items c.args.entry.irp.0 true) l.pool.closed.items l.pool.limit (c.add.ensures.limits k).items)
    ∙ listing_of-inserted c.args.place c.args.entry l.entries.items l.pool.used.items l.pool.closed.items l.pool.limit l.pool.counts.limits.items c.requires.irp
